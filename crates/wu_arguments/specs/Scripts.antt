-- Lines of a script, as lines of the command line.
use Rattle.std.specs.Prelude.{◌≡◌, ◌⊎◌, ℕ, Bool, true, false, List, ◌∷◌, [], ◌++◌, bytes_eq, codes, drop, eqb, if◌then◌else◌, slice_get, Option, Some, None, Result, Ok, Err}
use Rattle.std.specs.List.{starts_with}
use Rattle.std.specs.Option.{option_map_or}
use Rattle.wu_core.specs.declared.fault.Fault.TheVariants.{Memory}
use Rattle.wu_feed.specs.declared.script.LineCause.{LineCause}
use Rattle.wu_arguments.specs.Refusals.{Explains, IsLineOf, IsOrderOf}
use Rattle.wu_arguments.specs.declared.line.Asking.{Asking}
use Rattle.wu_arguments.specs.declared.line.Asking.TheVariants as asking
use Rattle.wu_arguments.specs.declared.line.Line.{Line}
use Rattle.wu_arguments.specs.declared.order.Export.{Export}
use Rattle.wu_arguments.specs.declared.order.Order.{Order}
use Rattle.wu_arguments.specs.declared.order.Order.TheVariants as order
use Rattle.wu_arguments.specs.declared.refusal.Outsider.{Outsider}
use Rattle.wu_arguments.specs.declared.refusal.Outsider.TheVariants as outsider
use Rattle.wu_arguments.specs.declared.refusal.Refusal.{Refusal}
use Rattle.wu_arguments.specs.declared.refusal.Refusal.TheVariants as refusal
use Rattle.wu_arguments.specs.declared.script.Mode.{Mode}
use Rattle.wu_arguments.specs.declared.script.Mode.TheVariants.{Once, Repeated, Tried}

-- The words of a script's line as words of the command line: the program's name before them, and the database after
-- them.
abbrev pub command_words : List ℕ → List (List ℕ) → List (List ℕ)
command_words db words = codes "lintelthyme" ∷ words ++ (codes "--db=" ++ db) ∷ []

-- What a line that begins with this word asks for, if it takes no database. Such a line is none of a script.
abbrev pub outsider_word : List ℕ → Option Outsider
outsider_word word =
    if bytes_eq word (codes "help") then Some outsider.Help
    else if bytes_eq word (codes "lint") then Some outsider.Lint
    else if bytes_eq word (codes "explain") then Some outsider.Explanation else None

-- What a line of these words asks for, if its first word says that it takes no database.
abbrev pub outsider_first : List (List ℕ) → Option Outsider
outsider_first words = option_map_or outsider_word (slice_get words 0) None

-- What a word asks for that stands in no line: help, or a database of the line's own, as `--db` or `--db=PATH`.
abbrev pub stranger_word : List ℕ → Option Outsider
stranger_word word =
    if bytes_eq word (codes "--db") then Some outsider.Database
    else if bytes_eq word (codes "--help") then Some outsider.Help
    else if bytes_eq word (codes "-h") then Some outsider.Help
    else if starts_with eqb word (codes "--db=") then Some outsider.Database else None

-- What is asked for, or else this.
abbrev pub or_else : Option Outsider → Option Outsider → Option Outsider
or_else None other = other
or_else (Some outsider) other = Some outsider

-- What the first such word of these asks for.
abbrev pub stranger_among : List (List ℕ) → Option Outsider
stranger_among [] = None
stranger_among (word ∷ words) = or_else (stranger_word word) (stranger_among words)

-- What a line of these words asks for, if one of them says that it is none of a script.
abbrev pub outsider_of_words : List (List ℕ) → Option Outsider
outsider_of_words words = or_else (outsider_first words) (stranger_among words)

-- What a script may not contain: another script, a session, a check, an export, a lint or an explanation.
abbrev pub outsider_of : Order → Option Outsider
outsider_of (order.Line line) = None
outsider_of (order.Script script) = Some outsider.Script
outsider_of (order.Session path) = Some outsider.Session
outsider_of (order.Check path) = Some outsider.Check
outsider_of (order.Export it) = Some (outsider.Export it.export)
outsider_of (order.Lint it) = Some outsider.Lint
outsider_of (order.Explain topic) = Some outsider.Explanation

-- What is to be made of a copy, of a line that is refused since it asks for that; else the refusal.
abbrev pub export_asked : Refusal → Result Export Refusal
export_asked (refusal.Outsider (outsider.Export export)) = Ok export
export_asked why = Err why

-- The refusal of what was to be repeated: an export is no pass.
abbrev pub repeated_refusal : Refusal → Refusal
repeated_refusal (refusal.Outsider (outsider.Export export)) = refusal.Repeat
repeated_refusal why = why

-- The refusal of what was to be tried: an export is neither a command nor a view.
abbrev pub tried_refusal : Refusal → Refusal
tried_refusal (refusal.Outsider (outsider.Export export)) = refusal.Try
tried_refusal why = why

-- The words read as this line, or as this refusal; any words may be out of memory.
abbrev pub ReadsCommand : List (List ℕ) → Result Line Refusal → Type 0
ReadsCommand words (Ok line) = IsLineOf words line
ReadsCommand words (Err (refusal.Text cause)) = ⊥
ReadsCommand words (Err (refusal.Words usage)) = Explains words usage
ReadsCommand words (Err (refusal.Outsider outsider)) = (order : Order) × IsOrderOf words order × (outsider_of order ≡ Some outsider)
ReadsCommand words (Err refusal.Repeat) = ⊥
ReadsCommand words (Err refusal.Try) = ⊥
ReadsCommand words (Err refusal.AfterExport) = ⊥
ReadsCommand words (Err (refusal.Fault fault)) = fault ≡ Memory

-- If a word of a script's line says that it is none, the line is refused for that. Else its words read as a command
-- line.
abbrev pub ReadsWords : List ℕ → List (List ℕ) → Result Line Refusal → Type 0
ReadsWords db words result =
    ((outsider : Outsider) × (outsider_of_words words ≡ Some outsider) × (result ≡ Err (refusal.Outsider outsider)))
    ⊎ ((outsider_of_words words ≡ None) × ReadsCommand (command_words db words) result)

-- Whether a line is one pass, which can be repeated.
abbrev pub is_pass : Asking → Bool
is_pass (asking.Pass pass now limit min_age) = true
is_pass _ = false

-- How a line is done that begins with this word.
abbrev pub mode_of_word : List ℕ → Mode
mode_of_word word =
    if bytes_eq word (codes "repeat") then Repeated
    else if bytes_eq word (codes "try") then Tried else Once

-- How the line of these words is done.
abbrev pub mode_of : List (List ℕ) → Mode
mode_of words = option_map_or mode_of_word (slice_get words 0) Once

-- Whether a word may begin what is repeated or tried: it is neither `repeat` nor `try`.
abbrev pub begins_line : List ℕ → Bool
begins_line word = if bytes_eq word (codes "repeat") then false else if bytes_eq word (codes "try") then false else true

-- Whether these words may be what is repeated or tried: there is a first one, and that may begin it.
abbrev pub may_be_line : List (List ℕ) → Bool
may_be_line words = option_map_or begins_line (slice_get words 0) false

-- The words after `repeat` read as a line that is a pass, or are refused. Any other line is refused as `Repeat`, and so
-- are an export, no words, and words that repeat or try again.
abbrev pub ReadsRepeated : List ℕ → List (List ℕ) → Result Line Refusal → Type 0
ReadsRepeated db words (Ok line) = (may_be_line words ≡ true) × ReadsWords db words (Ok line) × (is_pass line.asking ≡ true)
ReadsRepeated db words (Err why) =
    ((may_be_line words ≡ false) × (why ≡ refusal.Repeat))
    ⊎ (((line : Line) × (may_be_line words ≡ true) × ReadsWords db words (Ok line) × (is_pass line.asking ≡ false) × (why ≡ refusal.Repeat))
    ⊎ ((other : Refusal) × (may_be_line words ≡ true) × ReadsWords db words (Err other) × (why ≡ repeated_refusal other)))

-- The words after `try` read as a line, or are refused: an export as `Try`, and so no words, and words that repeat or
-- try again.
abbrev pub ReadsTried : List ℕ → List (List ℕ) → Result Line Refusal → Type 0
ReadsTried db words (Ok line) = (may_be_line words ≡ true) × ReadsWords db words (Ok line)
ReadsTried db words (Err why) =
    ((may_be_line words ≡ false) × (why ≡ refusal.Try))
    ⊎ ((other : Refusal) × (may_be_line words ≡ true) × ReadsWords db words (Err other) × (why ≡ tried_refusal other))

abbrev pub ReadsWordsOf : List ℕ → List (List ℕ) → Mode → Result Line Refusal → Type 0
ReadsWordsOf db words Once result = ReadsWords db words result
ReadsWordsOf db words Repeated result = ReadsRepeated db (drop 1 words) result
ReadsWordsOf db words Tried result = ReadsTried db (drop 1 words) result

-- A line of a script reads as this line or this refusal. A line that cannot be split into words is refused for that
-- cause.
abbrev pub ReadsScriptLine : List ℕ → Result (List (List ℕ)) LineCause → Mode → Result Line Refusal → Type 0
ReadsScriptLine db (Ok words) mode result = (mode ≡ mode_of words) × ReadsWordsOf db words mode result
ReadsScriptLine db (Err cause) mode result = (mode ≡ Once) × (result ≡ Err (refusal.Text cause))
