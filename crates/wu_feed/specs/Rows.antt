-- The rows of a file after its header, as `csv` reads the records. Records are numbered from 1, the header.
use Rattle.std.specs.Prelude.{◌≡◌, ◌≢◌, ◌⊎◌, ℕ, ◌+◌, ◌<◌, ◌≤◌, nat_lt, Bool, true, false, ◌&&◌, if◌then◌else◌, bytes_eq, List, [], ◌∷◌, length, take, Result, Ok, Err, IfErr, IfOk}
use Rattle.csv.specs.Reading.{default_config, records, strip_bom}
use Rattle.wu_core.specs.Reads.{IsOrWantsMemory}
use Rattle.wu_core.specs.declared.fault.Fault.{Fault}
use Rattle.wu_core.specs.declared.fault.Fault.TheVariants.{BadFile, Memory}
use Rattle.wu_core.specs.declared.fault.FileCause.{FileCause}
use Rattle.wu_core.specs.declared.fault.FileCause.TheVariants as cause
use Rattle.wu_feed.specs.Limits.{last_row, longest_file, most_records, most_rows}

-- The records of a text, each with its fields.
abbrev pub records_of : List ℕ → List (List (List ℕ))
records_of text = records default_config (strip_bom text)

-- The records that are read of a text: at most one more than a file may have.
abbrev pub first_records_of : List ℕ → List (List (List ℕ))
first_records_of text = take most_records (records_of text)

-- Whether the record has these fields, in this order.
abbrev pub is_header : List (List ℕ) → List (List ℕ) → Bool
is_header [] [] = true
is_header (name ∷ names) (field ∷ fields) = bytes_eq field name && is_header names fields
is_header _ _ = false

-- The row with these fields and this number, or its fault; a row after the last one that a file may have is
-- `TooManyRows`.
abbrev pub row_at : {R : Type 0} → (ℕ → List (List ℕ) → Result R Fault) → ℕ → List (List ℕ) → Result R Fault
row_at row_of number fields = if nat_lt last_row number then Err (BadFile number cause.TooManyRows) else row_of number fields

-- A row and the rows after it, or the first fault among them.
abbrev pub with_first : {R : Type 0} → Result R Fault → Result (List R) Fault → Result (List R) Fault
with_first (Err fault) rows = Err fault
with_first (Ok row) (Err fault) = Err fault
with_first (Ok row) (Ok rows) = Ok (row ∷ rows)

-- The rows of records that are numbered from this number on, or the fault of the first wrong row.
unfoldable pub rows_from : {R : Type 0} → (ℕ → List (List ℕ) → Result R Fault) → ℕ → List (List (List ℕ)) → Result (List R) Fault
rows_from row_of number [] = Ok []
rows_from row_of number (fields ∷ more) = with_first (row_at row_of number fields) (rows_from row_of (number + 1) more)

-- The rows after a header with these names; else the fault of the header or of the first wrong row.
abbrev pub rows_under : {R : Type 0} → List (List ℕ) → (ℕ → List (List ℕ) → Result R Fault) → List (List (List ℕ)) → Result (List R) Fault
rows_under names row_of [] = Err (BadFile 1 cause.Header)
rows_under names row_of (header ∷ more) = if is_header names header then rows_from row_of 2 more else Err (BadFile 1 cause.Header)

-- The rows of a file with this header, or its first wrong row with its first cause.
abbrev pub rows_of_file : {R : Type 0} → List (List ℕ) → (ℕ → List (List ℕ) → Result R Fault) → List ℕ → Result (List R) Fault
rows_of_file names row_of file =
    if nat_lt longest_file (length file) then Err (BadFile 0 cause.TooLong) else rows_under names row_of (records_of file)

-- A file that is too long is refused for that, whatever memory there is.
abbrev pub TellsTooLong : {T : Type 0} → Result T Fault → List ℕ → Type 0
TellsTooLong result file = longest_file < length file → result ≡ Err (BadFile 0 cause.TooLong)

-- The fault is out of memory, or refuses the file at a row.
abbrev pub IsFileFault : Fault → Type 0
IsFileFault fault = (fault ≡ Memory) ⊎ ((row : ℕ) × (first : FileCause) × (fault ≡ BadFile row first))

-- What reads a whole file whose rows are such.
pub record ReadsFile {R : Type 0} (result : Result (List R) Fault) (file : List ℕ) (rows_of : List ℕ → Result (List R) Fault) (AreRows : List R → Type 0) : Type 0 where
  -- The file reads as its rows, or as out of memory; any other is `BadFile` with its first faulty row and first cause.
  pub exact : IsOrWantsMemory result (rows_of file)
  -- A file above 1,048,576 bytes is refused as too long, even if the program is out of memory.
  pub long : TellsTooLong result file
  -- A fault is `Memory`, or `BadFile` with a row and a cause.
  pub told : IfErr result IsFileFault
  -- There are at most 1,000 rows.
  pub few : IfOk result (λ rows. length rows ≤ most_rows)
  -- Each row has the written form, within its ranges.
  pub ranged : IfOk result AreRows

-- Whether the first record is the header.
abbrev pub has_header : List (List ℕ) → List (List (List ℕ)) → Bool
has_header names [] = false
has_header names (header ∷ more) = is_header names header

-- Records without the header are refused for that, whatever memory there is.
abbrev pub TellsHeader : {T : Type 0} → Result T Fault → List (List ℕ) → List (List (List ℕ)) → Type 0
TellsHeader result names records = has_header names records ≡ false → result ≡ Err (BadFile 1 cause.Header)

-- A row with another number of fields than the header is refused for that, whatever memory there is.
abbrev pub TellsFields : {T : Type 0} → Result T Fault → ℕ → List (List ℕ) → List (List ℕ) → Type 0
TellsFields result number names fields = length fields ≢ length names → result ≡ Err (BadFile number cause.Fields)
