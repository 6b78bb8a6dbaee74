-- How records of a text are read.
use Rattle.std.specs.Prelude.{◌≡◌, ℕ, true, false, List, [], Option, Some, None}
use Rattle.csv.specs.Reading.{ReadRecord, Ready, default_config}
use Rattle.csv.specs.Records.{Row, fields_of}
use Rattle.csv.specs.declared.parser.State.TheVariants as st
use Rattle.csv.specs.declared.reader.Reader.{Reader}
use Rattle.csv.specs.declared.reader.Trim.TheVariants as trim

-- The reader leaves blanks as they are, and takes records of different lengths.
abbrev pub TakesAny : {R : Type 0} → Reader R → Type 0
TakesAny reader = (reader.trim ≡ trim.None) × (reader.flexible ≡ true) × Ready reader

-- The reader is new: it is before the first record of a file.
abbrev pub IsFresh : {R : Type 0} → Reader R → Type 0
IsFresh reader = TakesAny reader × (reader.config ≡ default_config) × (reader.state ≡ st.StartRecord)

-- A read returns the next record, or `None` after the last one.
abbrev pub GivesNext : {R : Type 0} → (R → Option (List ℕ)) → Reader R → Reader R → Option Row → Type 0
GivesNext rem old new (Some row) = ReadRecord rem old new true (fields_of row) × TakesAny new
GivesNext rem old new None = ReadRecord rem old new false []
