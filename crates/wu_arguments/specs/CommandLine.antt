-- The command of the program: its subcommands and their options.
use Rattle.std.specs.Prelude.{ℕ, Bool, true, false, List, [], ◌∷◌, map, codes, Option, Some, bytes_eq, find, option_and_then, slice_get}
use Rattle.clap.specs.Words.{App, Rule, Shape, new_app, new_rule, rule_of, shape_of}
use Rattle.clap.specs.declared.builder.arg.Arg.{Arg}
use Rattle.clap.specs.declared.builder.action.ArgAction.TheVariants.{Set}
use Rattle.clap.specs.declared.builder.command.Command.{Command}
use Rattle.clap.specs.declared.builder.command.Command.TheViews.{out-Command}
use Rattle.clap.specs.declared.builder.value_parser.ValueParser.TheVariants.{Unsigned}
use Rattle.wu_core.specs.declared.import.ImportKind.{ImportKind}
use Rattle.wu_core.specs.declared.import.ImportKind.TheVariants as kind
use Rattle.wu_rules.specs.declared.due.Pass.{Pass as PassKind}
use Rattle.wu_rules.specs.declared.due.Pass.TheVariants as pass
use Rattle.wu_arguments.specs.declared.option.LineOption.{LineOption}
use Rattle.wu_arguments.specs.declared.option.LineOption.TheVariants.{Database, Checked, To, Folder, Only, Name, Imported, Jobs, Template, Sends, Reports, Classes, Commands, Now, Limit, MinAge, Workunit, View, Topic, Detail, FaultDetail, FaultCause, Further, Last, Kind, Linted}
use Rattle.wu_arguments.specs.declared.option.OptionValue.{OptionValue}
use Rattle.wu_arguments.specs.declared.option.OptionValue.TheVariants.{Text, TextIfAny, Number, Word}
use Rattle.wu_arguments.specs.declared.subcommand.Subcommand.{Subcommand}
use Rattle.wu_arguments.specs.declared.subcommand.Subcommand.TheVariants.{Import, Pass, Cancel, Cycle, Show, Imports, Status, Upgrade, Script, Session, Check, Lint, Backup, Outputs, Explain}

-- The name of an option, without its two hyphens.
abbrev pub option_name : LineOption → List ℕ
option_name Database = codes "db"
option_name Checked = codes "db"
option_name To = codes "to"
option_name Folder = codes "to"
option_name Only = codes "name"
option_name Name = codes "name"
option_name Imported = codes "name"
option_name Jobs = codes "jobs"
option_name Template = codes "template"
option_name Sends = codes "file"
option_name Reports = codes "file"
option_name Classes = codes "file"
option_name Commands = codes "file"
option_name Now = codes "now"
option_name Limit = codes "limit"
option_name MinAge = codes "min-age"
option_name Workunit = codes "workunit"
option_name View = codes "view"
option_name Topic = codes "topic"
option_name Detail = codes "which"
option_name FaultDetail = codes "detail"
option_name FaultCause = codes "cause"
option_name Further = codes "more"
option_name Last = codes "last"
option_name Kind = codes "kind"
option_name Linted = codes "file"

-- What follows an option on a line. A template, the name of what alone is asked for and the words of `explain` may be
-- left out, and the words of `explain` stand alone.
-- Limits and ages are whole numbers of 64 bits.
abbrev pub value_of_option : LineOption → OptionValue
value_of_option Template = TextIfAny
value_of_option Only = TextIfAny
value_of_option Imported = TextIfAny
value_of_option Limit = Number
value_of_option MinAge = Number
value_of_option Topic = Word
value_of_option Detail = Word
value_of_option FaultDetail = Word
value_of_option FaultCause = Word
value_of_option Further = Word
value_of_option Last = Word
value_of_option _ = Text

abbrev pub is_required_value : OptionValue → Bool
is_required_value Text = true
is_required_value Number = true
is_required_value _ = false

-- Whether a line with this option has to give it.
abbrev pub is_required : LineOption → Bool
is_required option = is_required_value (value_of_option option)

-- The option that names the file of an import.
abbrev pub file_option : ImportKind → LineOption
file_option kind.Batch = Jobs
file_option kind.Sent = Sends
file_option kind.Reported = Reports
file_option kind.Classes = Classes

-- Whether a pass takes a moment, and whether it takes a least age.
abbrev pub takes_moment : PassKind → Bool
takes_moment pass.Transition = true
takes_moment pass.Validate = false
takes_moment pass.Assimilate = true
takes_moment pass.Delete = false
takes_moment pass.Purge = true

abbrev pub takes_age : PassKind → Bool
takes_age pass.Purge = true
takes_age _ = false

abbrev pub subcommand_name : Subcommand → List ℕ
subcommand_name (Import kind.Batch) = codes "batch"
subcommand_name (Import kind.Sent) = codes "sent"
subcommand_name (Import kind.Reported) = codes "reported"
subcommand_name (Import kind.Classes) = codes "classes"
subcommand_name (Pass pass.Transition) = codes "transition"
subcommand_name (Pass pass.Validate) = codes "validate"
subcommand_name (Pass pass.Assimilate) = codes "assimilate"
subcommand_name (Pass pass.Delete) = codes "delete"
subcommand_name (Pass pass.Purge) = codes "purge"
subcommand_name Cancel = codes "cancel"
subcommand_name Cycle = codes "cycle"
subcommand_name Show = codes "show"
subcommand_name Imports = codes "imports"
subcommand_name Status = codes "status"
subcommand_name Upgrade = codes "upgrade"
subcommand_name Script = codes "script"
subcommand_name Session = codes "session"
subcommand_name Check = codes "check"
subcommand_name Lint = codes "lint"
subcommand_name Backup = codes "backup"
subcommand_name Outputs = codes "outputs"
subcommand_name Explain = codes "explain"

-- The options of a template: only a batch may have one.
abbrev pub template_options : ImportKind → List LineOption
template_options kind.Batch = Template ∷ []
template_options _ = []

abbrev pub options_if : Bool → LineOption → List LineOption → List LineOption
options_if true option more = option ∷ more
options_if false option more = more

-- The options of a subcommand, in the order of its usage line.
abbrev pub options_of : Subcommand → List LineOption
options_of (Import kind) = Database ∷ Name ∷ file_option kind ∷ template_options kind
options_of (Pass pass) = Database ∷ options_if (takes_moment pass) Now (Limit ∷ options_if (takes_age pass) MinAge [])
options_of Cancel = Database ∷ Workunit ∷ []
options_of Cycle = Database ∷ Now ∷ Limit ∷ MinAge ∷ []
options_of Show = Database ∷ View ∷ []
options_of Imports = Database ∷ Imported ∷ []
options_of Status = Database ∷ Now ∷ []
options_of Upgrade = Database ∷ []
options_of Script = Database ∷ Commands ∷ []
options_of Session = Database ∷ []
options_of Check = Checked ∷ []
options_of Lint = Kind ∷ Linted ∷ []
options_of Backup = Checked ∷ To ∷ []
options_of Outputs = Checked ∷ Folder ∷ Only ∷ []
options_of Explain = Topic ∷ Detail ∷ FaultDetail ∷ FaultCause ∷ Further ∷ Last ∷ []

abbrev pub all_subcommands : List Subcommand
all_subcommands =
    Import kind.Batch ∷ Import kind.Sent ∷ Import kind.Reported ∷ Import kind.Classes
    ∷ Pass pass.Transition ∷ Pass pass.Validate ∷ Pass pass.Assimilate ∷ Pass pass.Delete ∷ Pass pass.Purge
    ∷ Cancel ∷ Cycle ∷ Show ∷ Imports ∷ Status ∷ Upgrade ∷ Script ∷ Session ∷ Check ∷ Lint ∷ Backup ∷ Outputs ∷ Explain ∷ []

-- The subcommand of this name.
abbrev pub subcommand_named : List ℕ → Option Subcommand
subcommand_named name = find (λ subcommand. bytes_eq name (subcommand_name subcommand)) all_subcommands

-- The subcommand that the word after the program's name names.
abbrev pub named_by : List (List ℕ) → Option Subcommand
named_by words = option_and_then subcommand_named (slice_get words 1)

-- The rule for a value of this name that stands alone, without an option before it.
abbrev pub bare_rule : List ℕ → Bool → Rule
bare_rule name required = record (new_rule name) { action = Some Set; value_names = 1; required = required }

-- The rule for an option of this name, whose value follows it.
abbrev pub named_rule : List ℕ → Bool → Rule
named_rule name required = record (bare_rule name required) { long = Some name }

abbrev pub rule_of_value : OptionValue → List ℕ → Rule
rule_of_value Text name = named_rule name true
rule_of_value TextIfAny name = named_rule name false
rule_of_value Number name = record (named_rule name true) { parser = Some (Unsigned 0 18446744073709551615) }
rule_of_value Word name = bare_rule name false

abbrev pub option_rule : LineOption → Rule
option_rule option = rule_of_value (value_of_option option) (option_name option)

-- The rule of an option, and whether the option is one of all subcommands; here none is.
abbrev pub rule_and_global : Arg → Rule × Bool
rule_and_global arg = (rule_of arg, arg.global)

abbrev pub local_rule : LineOption → Rule × Bool
local_rule option = (option_rule option, false)

-- The subcommand of this name with these options.
abbrev pub shape_with : List ℕ → List Rule → Shape
shape_with name rules = record (new_app name).top { rules = rules }

abbrev pub leaf_with : List ℕ → List Rule → App
leaf_with name rules = record { top = shape_with name rules; subs = [] }

abbrev pub subcommand_shape : Subcommand → Shape
subcommand_shape subcommand = shape_with (subcommand_name subcommand) (map option_rule (options_of subcommand))

-- The shape of a subcommand, and whether it has options of all subcommands; here none has.
abbrev pub shape_and_globals : Command → Shape × Bool
shape_and_globals command = (shape_of command, (out-Command command).has_globals)

abbrev pub local_shape : Subcommand → Shape × Bool
local_shape subcommand = (subcommand_shape subcommand, false)

abbrev pub are_none : List Shape → Bool
are_none [] = true
are_none (first ∷ shapes) = false

-- The program with these subcommands. A line has to name one of them.
abbrev pub program_with : List Shape → App
program_with subcommands = record {
  top = record (new_app (codes "lintelthyme")).top { is_leaf = are_none subcommands; subcommand_required = true; has_version = true };
  subs = subcommands;
}

abbrev pub program : App
program = program_with (map subcommand_shape all_subcommands)

-- The program with this subcommand alone.
abbrev pub program_alone : Subcommand → App
program_alone subcommand = program_with (map subcommand_shape (subcommand ∷ []))
