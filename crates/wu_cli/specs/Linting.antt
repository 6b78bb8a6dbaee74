-- Whether a file reads as its import or its script would read it.
use Rattle.std.specs.Prelude.{◌≡◌, ◌⊎◌, ℕ, ◌==◌, ◌-◌, List, [], ◌∷◌, ◌++◌, bytes_eq, codes, if◌then◌else◌, IfErr, Option, Some, None, Result, Ok, Err}
use Rattle.std.specs.Fmt.{decimal}
pub use Rattle.std.specs.Fmt.{digits}
use Rattle.wu_core.specs.Limits.{highest_class, highest_quorum, longest_delay, longest_input, longest_name, longest_output, most_credit, most_instances}
use Rattle.wu_core.specs.declared.fault.Fault.{Fault}
use Rattle.wu_core.specs.declared.fault.Fault.TheVariants.{BadFile, BadTemplate, Memory, Output}
use Rattle.wu_core.specs.declared.fault.FileCause.{FileCause}
use Rattle.wu_core.specs.declared.fault.FileCause.TheVariants as cause
use Rattle.wu_core.specs.declared.fault.TemplateKey.{TemplateKey}
use Rattle.wu_core.specs.declared.fault.TemplateKey.TheVariants as key
use Rattle.wu_feed.specs.Classes.{classes_header, classes_of_file}
use Rattle.wu_feed.specs.Jobs.{jobs_header, jobs_of_file}
use Rattle.wu_feed.specs.Limits.{longest_file, longest_template, most_rows}
use Rattle.wu_feed.specs.Reports.{reports_header, reports_of_file}
use Rattle.wu_feed.specs.Sends.{sends_of_file, sends_header}
use Rattle.wu_feed.specs.Shown.{shown_at}
use Rattle.wu_feed.specs.Templates.{template_of}
use Rattle.wu_report.specs.Texts.{line_end}
use Rattle.wu_report.specs.Writing.{WritesTo}
use Rattle.wu_arguments.specs.declared.order.LintOrder.{LintOrder}
use Rattle.wu_arguments.specs.declared.order.ScriptFile.{ScriptFile}
use Rattle.wu_arguments.specs.declared.usage.Usage.TheVariants.{UnknownKind}
use Rattle.wu_cli.specs.Endings.{fault_line}
use Rattle.wu_cli.specs.RowLines.{line_in_file}
use Rattle.wu_cli.specs.Working.{AsksOfScript}
use Rattle.wu_cli.specs.declared.linting.FileKind.{FileKind}
use Rattle.wu_cli.specs.declared.linting.FileKind.TheVariants.{Jobs, Sends, Reports, Classes, Template}
use Rattle.wu_cli.specs.declared.linting.LintKind.{LintKind}
use Rattle.wu_cli.specs.declared.linting.Unread.{Unread}
use Rattle.wu_cli.specs.declared.linting.LintKind.TheVariants.{Imported, Script}
use Rattle.wu_cli.specs.declared.trouble.Trouble.{Trouble}
use Rattle.wu_cli.specs.declared.trouble.Trouble.TheVariants as trouble
use Rattle.wu_cli.specs.declared.work.Work.{Work}

-- What a file is for, by its word.
abbrev pub kind_named : List ℕ → Option LintKind
kind_named word =
    if bytes_eq word (codes "jobs") then Some (Imported Jobs)
    else if bytes_eq word (codes "sends") then Some (Imported Sends)
    else if bytes_eq word (codes "reports") then Some (Imported Reports)
    else if bytes_eq word (codes "classes") then Some (Imported Classes)
    else if bytes_eq word (codes "template") then Some (Imported Template)
    else if bytes_eq word (codes "script") then Some Script
    else None

-- The most bytes of such a file.
abbrev pub longest_of : FileKind → ℕ
longest_of Template = longest_template
longest_of _ = longest_file

-- Whether a reading succeeded, or its fault.
abbrev pub nothing_of : {T E : Type 0} → Result T E → Result (Unit {0}) E
nothing_of (Ok read) = Ok tt
nothing_of (Err fault) = Err fault

-- Whether bytes read as such a file, or the fault with which its import refuses them.
abbrev pub read_as : FileKind → List ℕ → Result (Unit {0}) Fault
read_as Jobs bytes = nothing_of (jobs_of_file bytes)
read_as Sends bytes = nothing_of (sends_of_file bytes)
read_as Reports bytes = nothing_of (reports_of_file bytes)
read_as Classes bytes = nothing_of (classes_of_file bytes)
read_as Template bytes = nothing_of (template_of bytes)

-- ---- what is wanted

-- The names of a header, as they stand in a file.
unfoldable pub joined : List (List ℕ) → List ℕ
joined [] = []
joined (name ∷ []) = name
joined (name ∷ (next ∷ names)) = name ++ (codes "," ++ joined (next ∷ names))

-- The header of the rows that such a file's reader takes; a template has none.
abbrev pub header_wanted : FileKind → List ℕ
header_wanted Jobs = codes "the header " ++ joined jobs_header
header_wanted Sends = codes "the header " ++ joined sends_header
header_wanted Reports = codes "the header " ++ joined reports_header
header_wanted Classes = codes "the header " ++ joined classes_header
header_wanted Template = codes "keys and numbers"

-- What is wanted of a name.
abbrev pub name_wanted : List ℕ
name_wanted = codes "1 to " ++ (decimal longest_name ++ codes " ASCII letters, digits, _, . or -")

-- What is wanted in place of what a cause refuses.
abbrev pub wanted : FileKind → FileCause → List ℕ
wanted kind cause.Unreadable = codes "a file that can be read"
wanted kind cause.TooLong = codes "at most " ++ (decimal longest_file ++ codes " bytes")
wanted kind cause.Header = header_wanted kind
wanted kind cause.TooManyRows = codes "at most " ++ (decimal most_rows ++ codes " rows")
wanted kind cause.Fields = codes "as many fields as the header has"
wanted kind cause.Name = name_wanted
wanted kind cause.Host = name_wanted
wanted kind cause.Input = codes "hex, 0 to " ++ (decimal longest_input ++ codes " bytes")
wanted kind cause.Result = codes "the name of a workunit, _ and a number from 0 to " ++ decimal (most_instances - 1)
wanted kind cause.Moment = codes "a moment as 2026-03-01T12:00:00Z"
wanted kind cause.Status = codes "success, client_error or detached"
wanted kind cause.Output = codes "hex, 0 to " ++ (decimal longest_output ++ codes " bytes, of a success alone")
wanted kind cause.Class = codes "a number from 1 to " ++ decimal highest_class

-- What is wanted of a number in this range.
abbrev pub number_wanted : ℕ → ℕ → List ℕ
number_wanted low high = codes "a whole number from " ++ (decimal low ++ (codes " to " ++ decimal high))

-- What is wanted of a template that is refused with a key.
abbrev pub wanted_of_key : TemplateKey → List ℕ
wanted_of_key key.Document = codes "TOML with each key once, at most " ++ (decimal longest_template ++ codes " bytes")
wanted_of_key key.Unknown = codes "no keys but min_quorum, target_nresults, max_error_results, max_total_results, max_success_results, delay_bound and credit"
wanted_of_key key.MinQuorum = number_wanted 1 highest_quorum
wanted_of_key key.TargetNresults = codes "a whole number from min_quorum to " ++ decimal highest_quorum
wanted_of_key key.MaxErrorResults = number_wanted 0 most_instances
wanted_of_key key.MaxTotalResults = number_wanted 1 most_instances
wanted_of_key key.MaxSuccessResults = number_wanted 0 most_instances
wanted_of_key key.DelayBound = number_wanted 1 longest_delay
wanted_of_key key.Credit = number_wanted 0 most_credit

-- The column, from 1, of the field that a cause refuses; 0 if it refuses no field.
abbrev pub column_of : FileKind → FileCause → ℕ
column_of Classes cause.Host = 1
column_of kind cause.Name = 1
column_of kind cause.Result = 1
column_of kind cause.Input = 2
column_of kind cause.Host = 2
column_of kind cause.Class = 2
column_of kind cause.Moment = 3
column_of kind cause.Status = 4
column_of kind cause.Output = 5
column_of kind _ = 0

-- ---- what is found

-- The field in a column, from 1, of a row, from 1; none in column 0.
abbrev pub found_in : List ℕ → ℕ → ℕ → Option (List ℕ)
found_in bytes row column = if column == 0 then None else shown_at bytes (row - 1) (column - 1)

-- The field of a file that a fault refuses, if a report shows it.
abbrev pub found_by : FileKind → List ℕ → Fault → Option (List ℕ)
found_by kind bytes (BadFile row cause) = found_in bytes row (column_of kind cause)
found_by kind bytes _ = None

-- In which line of a file the row stands that a fault refuses; 0 if it refuses none.
abbrev pub line_by : List ℕ → Fault → ℕ
line_by bytes (BadFile row cause) = if row == 0 then 0 else line_in_file bytes row
line_by bytes _ = 0

-- A file of this kind that is refused with a fault, with the line and the field that are refused.
abbrev pub unread : FileKind → List ℕ → Fault → Unread
unread kind bytes fault = record { kind = kind; fault = fault; line = line_by bytes fault; found = found_by kind bytes fault }

-- A file of this kind that is refused with a fault at no field.
abbrev pub unfound : FileKind → Fault → Unread
unfound kind fault = record { kind = kind; fault = fault; line = 0; found = None }

-- What a reading refuses, with the field that is refused.
abbrev pub with_found : FileKind → List ℕ → Result (Unit {0}) Fault → Result (Unit {0}) Unread
with_found kind bytes (Ok read) = Ok tt
with_found kind bytes (Err fault) = Err (unread kind bytes fault)

-- Whether a file with this content reads so; one that cannot be read is refused as its import refuses it.
abbrev pub linted : FileKind → Option (List ℕ) → Result (Unit {0}) Unread
linted kind (Some bytes) = with_found kind bytes (read_as kind bytes)
linted kind None = Err (unfound kind (BadFile 0 cause.Unreadable))

-- A file that does not read so, as a trouble.
abbrev pub as_trouble : Result (Unit {0}) Unread → Result (Unit {0}) Trouble
as_trouble (Ok read) = Ok tt
as_trouble (Err unread) = Err (trouble.Unread unread)

-- ---- the texts

abbrev pub in_line : ℕ → List ℕ
in_line line = codes "in line " ++ (decimal line ++ line_end)

-- In which line the row stands that is refused; nothing if none is.
abbrev pub line_text : ℕ → List ℕ
line_text line = if line == 0 then [] else in_line line

-- The field that is refused, between quotes.
abbrev pub field_line : List ℕ → List ℕ
field_line field = codes "found: '" ++ (field ++ (codes "'" ++ line_end))

-- The field that is refused, if a report shows it.
abbrev pub found_text : Option (List ℕ) → List ℕ
found_text (Some field) = field_line field
found_text None = []

abbrev pub column_line : ℕ → List ℕ → List ℕ
column_line column text = codes "wanted in column " ++ (decimal column ++ (codes ": " ++ (text ++ line_end)))

abbrev pub wanted_line : ℕ → List ℕ → List ℕ
wanted_line column text =
    if column == 0
    then codes "wanted: " ++ text ++ line_end
    else column_line column text

-- What is wanted where a file of rows or a template is refused; nothing for any other fault.
abbrev pub wanted_text : FileKind → Fault → List ℕ
wanted_text kind (BadFile row cause) = wanted_line (column_of kind cause) (wanted kind cause)
wanted_text kind (BadTemplate key) = wanted_line 0 (wanted_of_key key)
wanted_text kind _ = []

-- The fault of a file, in which line it is, what was found there and what is wanted.
abbrev pub unread_text : Unread → List ℕ
unread_text unread = fault_line unread.fault ++ (line_text unread.line ++ (found_text unread.found ++ wanted_text unread.kind unread.fault))

module _ (gives : List ℕ → ℕ → Option (List ℕ) → Type 0) where
  -- The file at the path is read as one of this kind, or the call is out of memory.
  abbrev pub LintsFile : FileKind → List ℕ → Result (Unit {0}) Unread → Type 0
  LintsFile kind path result =
      (result ≡ Err (unfound kind Memory)) ⊎ ((content : Option (List ℕ)) × gives path (longest_of kind) content × (result ≡ linted kind content))

  -- The script at the path is read with the files of its lines, or the call is out of memory.
  abbrev pub LintsScript : List ℕ → Result (Unit {0}) Trouble → Type 0
  LintsScript path result =
      (result ≡ Err (trouble.Fault Memory))
      ⊎ ((script : ScriptFile) × (script.file ≡ path) × ((asked : Result Work Trouble) × AsksOfScript gives script asked × (result ≡ nothing_of asked)))

  -- The file at the path is read as what it is for.
  abbrev pub LintsKind : LintKind → List ℕ → Result (Unit {0}) Trouble → Type 0
  LintsKind (Imported kind) path result = (read : Result (Unit {0}) Unread) × LintsFile kind path read × (result ≡ as_trouble read)
  LintsKind Script path result = LintsScript path result

-- The line of a file that reads as it should.
abbrev pub sound_file_text : List ℕ → List ℕ
sound_file_text path = codes "ok " ++ path ++ line_end

-- The file reads as it should, and this goes out. Or the trouble is that of its reading, and nothing goes out.
abbrev pub TellsLint : {W : Type 0} → (W → Option (List ℕ)) → List ℕ → W → W → Result (Unit {0}) Trouble → Result (Unit {0}) Trouble → Type 0
TellsLint contents path old new (Ok read) done =
    WritesTo contents old new (sound_file_text path) done × IfErr done (λ told. told ≡ trouble.Fault Output)
TellsLint contents path old new (Err told) done = (done ≡ Err told) × (new ≡ old)

-- What the words ask to be read is read, by the kind that they name.
abbrev pub LintsAs : {W : Type 0} → (List ℕ → ℕ → Option (List ℕ) → Type 0) → (W → Option (List ℕ)) → Option LintKind → List ℕ → W → W → Result (Unit {0}) Trouble → Type 0
LintsAs gives contents (Some kind) path old new done =
    (read : Result (Unit {0}) Trouble) × LintsKind gives kind path read × TellsLint contents path old new read done
LintsAs gives contents None path old new done = (done ≡ Err (trouble.Usage UnknownKind)) × (new ≡ old)

abbrev pub Lints : {W : Type 0} → (List ℕ → ℕ → Option (List ℕ) → Type 0) → (W → Option (List ℕ)) → LintOrder → W → W → Result (Unit {0}) Trouble → Type 0
Lints gives contents it old new done = LintsAs gives contents (kind_named it.kind) it.file old new done
