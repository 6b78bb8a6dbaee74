-- Why words are no valid line.
use Rattle.std.specs.Prelude.{◌≡◌, ◌≢◌, ◌⊎◌, ◌<◌, ◌^◌, ℕ, true, List, [], ◌∷◌, Option, Some, None, Result, IfErr, IfOk, ⊤}
use Rattle.std.specs.Str.Parse.{IsNumeral, digits_value, without_leading_plus}
use Rattle.clap.specs.Words.{App, Row, fault_of, kind_of, one_of, subcommand_of}
use Rattle.clap.specs.declared.error.Error.{Error}
use Rattle.clap.specs.declared.error.kind.ErrorKind.TheVariants.{OutOfMemory}
use Rattle.wu_machine.specs.declared.view.View.{View}
use Rattle.wu_arguments.specs.CommandLine.{is_required, option_name, options_of, program, subcommand_name, subcommand_named, value_of_option}
use Rattle.wu_arguments.specs.Lines.{IsOrder, IsViewIn, value_in}
use Rattle.wu_arguments.specs.declared.line.Line.{Line}
use Rattle.wu_arguments.specs.declared.order.Order.{Order}
use Rattle.wu_arguments.specs.declared.order.Order.TheVariants as order
use Rattle.wu_arguments.specs.declared.option.LineOption.{LineOption}
use Rattle.wu_arguments.specs.declared.option.LineOption.TheVariants as option
use Rattle.wu_arguments.specs.declared.option.OptionValue.{OptionValue}
use Rattle.wu_arguments.specs.declared.option.OptionValue.TheVariants.{Number}
use Rattle.wu_arguments.specs.declared.subcommand.Subcommand.{Subcommand}
use Rattle.wu_arguments.specs.declared.subcommand.Subcommand.TheVariants.{Show}
use Rattle.wu_arguments.specs.declared.usage.Usage.{Usage}
use Rattle.wu_arguments.specs.declared.usage.Usage.TheVariants.{Refused, UnknownView, UnknownTopic, UnknownKind, NotText, LongLine, Incomplete, Memory}

-- An error of clap is reported as a refusal only if it is not out of memory; any error may be reported as out of
-- memory.
abbrev pub IsTold : Error → Usage → Type 0
IsTold error (Refused text) = kind_of error ≢ OutOfMemory
IsTold error UnknownView = ⊥
IsTold error (UnknownTopic near) = ⊥
IsTold error UnknownKind = ⊥
IsTold error NotText = ⊥
IsTold error LongLine = ⊥
IsTold error Incomplete = ⊥
IsTold error Memory = ⊤

-- Clap refuses the words for this program, or the call is out of memory.
abbrev pub IsRefusalBy : App → List (List ℕ) → Usage → Type 0
IsRefusalBy app words (Refused text) = fault_of app words ≢ []
IsRefusalBy app words UnknownView = ⊥
IsRefusalBy app words (UnknownTopic near) = ⊥
IsRefusalBy app words UnknownKind = ⊥
IsRefusalBy app words NotText = ⊥
IsRefusalBy app words LongLine = ⊥
IsRefusalBy app words Incomplete = ⊥
IsRefusalBy app words Memory = ⊤

-- Clap refuses the words for `lintelthyme`, or the call is out of memory.
abbrev pub IsRefusal : List (List ℕ) → Usage → Type 0
IsRefusal words usage = IsRefusalBy program words usage

-- The text is a number of 64 bits in decimal.
abbrev pub IsNumberText : List ℕ → Type 0
IsNumberText text = IsNumeral 10 (without_leading_plus text) × (digits_value 10 (without_leading_plus text) < 2 ^ 64)

-- Clap finds no value of the option; for an option that takes a number, it finds no text of one.
abbrev pub LacksText : List Row → LineOption → Type 0
LacksText found option = value_in found option ≡ None

abbrev pub LacksNumberText : List Row → LineOption → Type 0
LacksNumberText found option = (text : List ℕ) → one_of (option_name option) found ≡ Some text → IsNumberText text → ⊥

abbrev pub LacksValue : OptionValue → List Row → LineOption → Type 0
LacksValue Number found option = LacksNumberText found option
LacksValue _ found option = LacksText found option

abbrev pub Lacks : List Row → LineOption → Type 0
Lacks found option = LacksValue (value_of_option option) found option

-- One of these options has to be given and lacks a value.
abbrev pub LacksOne : List Row → List LineOption → Type 0
LacksOne found [] = ⊥
LacksOne found (option ∷ more) = ((is_required option ≡ true) × Lacks found option) ⊎ LacksOne found more

-- Clap finds a value of the option.
abbrev pub HasText : List Row → LineOption → Type 0
HasText found option = (text : List ℕ) × (value_in found option ≡ Some text)

-- The words name a view that can be shown.
abbrev pub IsSeen : List Row → Type 0
IsSeen found = (view : View) × IsViewIn found (Some view)

-- The words are reported as incomplete, and this is lacking.
abbrev pub TellsLack : Type 0 → Usage → Type 0
TellsLack Lacking usage = (usage ≡ Incomplete) × Lacking

-- The words are reported as incomplete because a value is missing, or the call is out of memory.
abbrev pub IsWithout : Type 0 → Usage → Type 0
IsWithout Lacking usage = TellsLack Lacking usage ⊎ (usage ≡ Memory)

-- The call is out of memory only if this holds.
abbrev pub WantsOnly : {T : Type 0} → Result T Usage → Type 0 → Type 0
WantsOnly result Fact = IfErr result (λ usage. usage ≡ Memory → Fact)

-- An option that the subcommand has to have lacks a value, or the call is out of memory.
abbrev pub IsLacking : List Row → Subcommand → Usage → Type 0
IsLacking found subcommand = IsWithout (LacksOne found (options_of subcommand))

-- What reads the values of a subcommand, or that a value is lacking.
pub record ReadsValues {T : Type 0} (result : Result T Usage) (found : List Row) (subcommand : Subcommand) (Holds : List Row → Subcommand → T → Type 0) : Type 0 where
  -- After `Ok` these are the values that clap finds of its options.
  pub value : IfOk result (Holds found subcommand)
  -- A refusal says which value is lacking, which is so, or it is out of memory.
  pub refused : IfErr result (IsLacking found subcommand)

-- The words ask to show something that is no view, or lack the name of a view.
abbrev pub IsUnseen : List Row → Usage → Type 0
IsUnseen found usage = TellsLack (LacksText found option.View) usage ⊎ ((usage ≡ UnknownView) × IsViewIn found None)

-- Why words are no line of a subcommand: an option that has to be given lacks a value, or the view is unknown.
abbrev pub RefusesValues : List Row → Subcommand → Usage → Type 0
RefusesValues found subcommand usage = IsLacking found subcommand usage ⊎ ((usage ≡ UnknownView) × (subcommand ≡ Show) × IsViewIn found None)

abbrev pub LacksOfNamed : List Row → Option Subcommand → Type 0
LacksOfNamed found None = ⊤
LacksOfNamed found (Some subcommand) = LacksOne found (options_of subcommand)

-- Clap finds no subcommand, a subcommand that is not the program's, or no value of an option that has to be given.
abbrev pub IsIncomplete : Option (List ℕ × List Row) → Type 0
IsIncomplete None = ⊤
IsIncomplete (Some found) = LacksOfNamed found.1 (subcommand_named found.0)

-- Why words are no line: clap refuses them, they name an unknown view, or they are incomplete.
abbrev pub Explains : List (List ℕ) → Usage → Type 0
Explains words (Refused text) = fault_of program words ≢ []
Explains words UnknownView = (found : List Row) × (subcommand_of program words ≡ Some (subcommand_name Show, found)) × IsViewIn found None
Explains words (UnknownTopic near) = ⊥
Explains words UnknownKind = ⊥
Explains words NotText = ⊥
Explains words LongLine = ⊥
Explains words Incomplete = (fault_of program words ≡ []) × IsIncomplete (subcommand_of program words)
Explains words Memory = ⊤

-- Clap takes the words, and its subcommand and values ask for this.
abbrev pub IsOrderOf : List (List ℕ) → Order → Type 0
IsOrderOf words order =
    (fault_of program words ≡ [])
    × ((subcommand : Subcommand) × (found : List Row) × (subcommand_of program words ≡ Some (subcommand_name subcommand, found)) × IsOrder found subcommand order)

-- The words are this line.
abbrev pub IsLineOf : List (List ℕ) → Line → Type 0
IsLineOf words line = IsOrderOf words (order.Line line)

-- This holds of all words that clap takes and in which it finds this subcommand.
abbrev pub OfTaken : (List (List ℕ) → Type 0) → Option (List ℕ × List Row) → Type 0
OfTaken Fact found = (words : List (List ℕ)) → fault_of program words ≡ [] → found ≡ subcommand_of program words → Fact words
