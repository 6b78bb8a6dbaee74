-- Scripts: the lines of a text, each with its words, as `csv` reads them. Lines are numbered from 1.
use Rattle.std.specs.Prelude.{◌≡◌, ◌<◌, ℕ, ◌==◌, nat_lt, ◌||◌, ◌&&◌, Bool, if◌then◌else◌, List, [], ◌∷◌, ◌++◌, length, filter, slice_get, Option, Some, None, Result, Ok, Err}
use Rattle.std.specs.List.{enumerate_from, filter_map, list_any, slice_split}
use Rattle.std.specs.Str.{is_utf8}
use Rattle.std.specs.Str.Lines.{strip_carriage_return}
use Rattle.csv.specs.Machine.{Read, line_feed, next_record}
use Rattle.csv.specs.Reading.{default_config, strip_bom}
use Rattle.csv.specs.declared.parser.Config.{Config}
use Rattle.csv.specs.declared.parser.State.TheVariants as st
use Rattle.csv.specs.declared.parser.Terminator.TheVariants as term
use Rattle.wu_core.specs.declared.fault.Fault.{Fault}
use Rattle.wu_core.specs.declared.fault.Fault.TheVariants.{BadFile}
use Rattle.wu_core.specs.declared.fault.FileCause.TheVariants as file
use Rattle.wu_feed.specs.Limits.{longest_file, most_lines}
use Rattle.wu_feed.specs.declared.script.LineCause.{LineCause}
use Rattle.wu_feed.specs.declared.script.LineCause.TheVariants as cause
use Rattle.wu_feed.specs.declared.script.ScriptLine.{ScriptLine}

-- How `csv` reads a script: a blank (32) separates words, a line that begins with `#` (35) is a comment, and a line
-- feed ends a line.
abbrev pub script_config : Config
script_config = record default_config { delimiter = 32; comment = Some 35; terminator = term.Any line_feed }

-- The fields of a record; none without a record.
abbrev pub fields_if : Option Read → List (List ℕ)
fields_if (Some read) = read.0
fields_if None = []

-- The first record of a text, or `None`.
abbrev pub first_read : List ℕ → Option Read
first_read text = next_record script_config st.StartRecord [] [] (strip_bom text)

-- The text of one line, without a carriage return at its end.
abbrev pub text_of_line : List ℕ → List ℕ
text_of_line line = strip_carriage_return line ++ line_feed ∷ []

-- The fields of a line.
abbrev pub fields_in : List ℕ → List (List ℕ)
fields_in line = fields_if (first_read (text_of_line line))

-- A blank, and a byte that `csv` joins to a field: ASCII from `$` (36) on.
abbrev pub is_blank : ℕ → Bool
is_blank byte = byte == 32

abbrev pub is_plain_byte : ℕ → Bool
is_plain_byte byte = is_blank byte || (nat_lt 35 byte && nat_lt byte 128)

-- Why a field is no word: its quote is open, so that it contains the line feed, or it is no text. `None` for a word.
abbrev pub field_cause : List ℕ → Option LineCause
field_cause field = if list_any (λ byte. byte == line_feed) field then Some cause.OpenQuote else if is_utf8 field then None else Some cause.NotText

-- The words, or the cause for which there are no words.
abbrev pub words_unless : Option LineCause → List (List ℕ) → Result (List (List ℕ)) LineCause
words_unless (Some why) words = Err why
words_unless None words = Ok words

-- Whether the text has a byte.
abbrev pub has_bytes : List ℕ → Bool
has_bytes bytes = nat_lt 0 (length bytes)

-- The words among the fields, which are those with bytes; the first field that is no word decides the fault.
abbrev pub words_among : List (List ℕ) → Result (List (List ℕ)) LineCause
words_among fields = words_unless (slice_get (filter_map field_cause fields) 0) (filter has_bytes fields)

-- The words of the line of this number; a line after the thousandth is `TooManyLines`.
abbrev pub words_at : ℕ → List ℕ → Result (List (List ℕ)) LineCause
words_at number line = if nat_lt most_lines number then Err cause.TooManyLines else words_among (fields_in line)

-- A line with its words, and a line with its cause.
abbrev pub with_words : ℕ → List (List ℕ) → ScriptLine
with_words number words = record { number = number; words = Ok words }

abbrev pub at_fault : ℕ → LineCause → ScriptLine
at_fault number why = record { number = number; words = Err why }

-- The line of a script; `None` if it has no words.
abbrev pub line_with : ℕ → Result (List (List ℕ)) LineCause → Option ScriptLine
line_with number (Ok []) = None
line_with number (Ok words) = Some (with_words number words)
line_with number (Err why) = Some (at_fault number why)

-- The line of a script from its number and text; `None` for a line without a byte.
abbrev pub script_line_of : ℕ × List ℕ → Option ScriptLine
script_line_of line = if has_bytes line.1 then line_with line.0 (words_at line.0 line.1) else None

-- A line after the thousandth is reported as `TooManyLines`, whatever memory there is.
abbrev pub TellsLate : {T : Type 0} → ℕ → Result T Fault → T → Type 0
TellsLate number result line = most_lines < number → result ≡ Ok line

-- The lines of a text, with their numbers.
abbrev pub numbered_lines : List ℕ → List (ℕ × List ℕ)
numbered_lines text = enumerate_from 1 (slice_split (λ byte. byte == line_feed) text)

-- The lines of a script; a script that is too long is `TooLong`.
abbrev pub script_of : List ℕ → Result (List ScriptLine) Fault
script_of text = if nat_lt longest_file (length text) then Err (BadFile 0 file.TooLong) else Ok (filter_map script_line_of (numbered_lines text))
