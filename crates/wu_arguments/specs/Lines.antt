-- What the words of the command line ask for: a subcommand that clap finds, with the values of its options.
use Rattle.std.specs.Prelude.{◌≡◌, ℕ, Bool, true, false, if◌then◌else◌, List, codes, bytes_eq, Option, Some, None, ⊤}
use Rattle.std.specs.Str.Parse.{digits_value, without_leading_plus}
use Rattle.clap.specs.Words.{Row, first_of, one_of}
use Rattle.wu_core.specs.declared.import.ImportKind.{ImportKind}
use Rattle.wu_core.specs.declared.import.ImportKind.TheVariants.{Batch}
use Rattle.wu_machine.specs.declared.view.View.{View}
use Rattle.wu_machine.specs.declared.view.View.TheVariants.{Workunits, Results, Hosts, Archive, Summary, Classes}
use Rattle.wu_arguments.specs.CommandLine.{file_option, option_name, takes_age, takes_moment}
use Rattle.wu_arguments.specs.declared.option.LineOption.{LineOption}
use Rattle.wu_arguments.specs.declared.option.LineOption.TheVariants as option
use Rattle.wu_arguments.specs.declared.subcommand.Subcommand.{Subcommand}
use Rattle.wu_arguments.specs.declared.subcommand.Subcommand.TheVariants as subcommand
use Rattle.wu_arguments.specs.declared.line.Asking.{Asking}
use Rattle.wu_arguments.specs.declared.line.Asking.TheVariants as asking
use Rattle.wu_arguments.specs.declared.order.Export.{Export}
use Rattle.wu_arguments.specs.declared.order.Export.TheVariants as export
use Rattle.wu_arguments.specs.declared.order.Order.{Order}
use Rattle.wu_arguments.specs.declared.order.Order.TheVariants as order

-- The view of this name. That of imports has none: it is a subcommand of its own.
abbrev pub view_named : List ℕ → Option View
view_named name =
    if bytes_eq name (codes "workunits") then Some Workunits
    else if bytes_eq name (codes "results") then Some Results
    else if bytes_eq name (codes "hosts") then Some Hosts
    else if bytes_eq name (codes "archive") then Some Archive
    else if bytes_eq name (codes "summary") then Some Summary
    else if bytes_eq name (codes "classes") then Some Classes
    else None

-- The value that clap finds of an option: its first one, or `None`.
abbrev pub value_in : List Row → LineOption → Option (List ℕ)
value_in found option = first_of (option_name option) found

-- The value of the option writes this number in decimal.
abbrev pub IsNumberIn : List Row → LineOption → ℕ → Type 0
IsNumberIn found option n = (text : List ℕ) × (one_of (option_name option) found ≡ Some text) × (n ≡ digits_value 10 (without_leading_plus text))

-- The value of the option names this view, or no view.
abbrev pub IsViewIn : List Row → Option View → Type 0
IsViewIn found view = (text : List ℕ) × (value_in found option.View ≡ Some text) × (view_named text ≡ view)

abbrev pub IsTextIn : List Row → LineOption → List ℕ → Type 0
IsTextIn found option text = value_in found option ≡ Some text

-- If a line has the option, this is its value; otherwise this is `None`.
abbrev pub IsTextIf : Bool → List Row → LineOption → Option (List ℕ) → Type 0
IsTextIf true found option (Some text) = IsTextIn found option text
IsTextIf true found option None = ⊥
IsTextIf false found option text = text ≡ None

abbrev pub IsNumberIf : Bool → List Row → LineOption → Option ℕ → Type 0
IsNumberIf true found option (Some n) = IsNumberIn found option n
IsNumberIf true found option None = ⊥
IsNumberIf false found option n = n ≡ None

-- This is the template of an import; only a batch may have one.
abbrev pub IsTemplate : List Row → ImportKind → Option (List ℕ) → Type 0
IsTemplate found Batch template = value_in found option.Template ≡ template
IsTemplate found kind template = template ≡ None

-- A line asks for this subcommand, with the values that clap finds of its options.
abbrev pub HoldsValues : List Row → Subcommand → Asking → Type 0
HoldsValues found (subcommand.Import kind) (asking.Import its name file template) =
    (its ≡ kind) × IsTextIn found option.Name name × IsTextIn found (file_option kind) file × IsTemplate found kind template
HoldsValues found (subcommand.Pass pass) (asking.Pass its now limit min_age) =
    (its ≡ pass) × IsTextIf (takes_moment pass) found option.Now now × IsNumberIn found option.Limit limit × IsNumberIf (takes_age pass) found option.MinAge min_age
HoldsValues found subcommand.Cycle (asking.Cycle now limit min_age) =
    IsTextIn found option.Now now × IsNumberIn found option.Limit limit × IsNumberIn found option.MinAge min_age
HoldsValues found subcommand.Cancel (asking.Cancel workunit) = IsTextIn found option.Workunit workunit
HoldsValues found subcommand.Show (asking.Show view) = IsViewIn found (Some view)
HoldsValues found subcommand.Imports (asking.Imports name) = value_in found option.Imported ≡ name
HoldsValues found subcommand.Status (asking.Status now) = IsTextIn found option.Now now
HoldsValues found subcommand.Upgrade asking.Upgrade = ⊤
HoldsValues found _ _ = ⊥

-- The words ask for this line, over the database that clap finds.
abbrev pub IsLineIn : List Row → Asking → Order → Type 0
IsLineIn found asking (order.Line line) = IsTextIn found option.Database line.db × (line.asking ≡ asking)
IsLineIn found asking _ = ⊥

-- Where an export is made: the path of a file or of a folder.
abbrev pub export_place : Export → List ℕ
export_place (export.Backup to) = to
export_place (export.Outputs files) = files.folder

-- The words ask for this export, with the values that clap finds of its options.
abbrev pub IsExport : List Row → Subcommand → Export → Type 0
IsExport found asked (export.Backup to) = (asked ≡ subcommand.Backup) × IsTextIn found option.To to
IsExport found asked (export.Outputs files) =
    (asked ≡ subcommand.Outputs) × IsTextIn found option.Folder files.folder × (value_in found option.Only ≡ files.name)

-- The words ask for this subcommand, with the values that clap finds of its options.
abbrev pub IsOrder : List Row → Subcommand → Order → Type 0
IsOrder found asked (order.Line line) = IsTextIn found option.Database line.db × HoldsValues found asked line.asking
IsOrder found asked (order.Script script) =
    (asked ≡ subcommand.Script) × IsTextIn found option.Database script.db × IsTextIn found option.Commands script.file
IsOrder found asked (order.Session path) = (asked ≡ subcommand.Session) × IsTextIn found option.Database path
IsOrder found asked (order.Check path) = (asked ≡ subcommand.Check) × IsTextIn found option.Checked path
IsOrder found asked (order.Export it) = IsTextIn found option.Checked it.db × IsExport found asked it.export
IsOrder found asked (order.Lint it) = (asked ≡ subcommand.Lint) × IsTextIn found option.Kind it.kind × IsTextIn found option.Linted it.file
IsOrder found asked (order.Explain topic) =
    (asked ≡ subcommand.Explain) × (value_in found option.Topic ≡ topic.name) × (value_in found option.Detail ≡ topic.detail)
    × (value_in found option.FaultDetail ≡ topic.fault_detail) × (value_in found option.FaultCause ≡ topic.fault_cause)
