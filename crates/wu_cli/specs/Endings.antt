-- How the program ends: the line on its standard error.
use Rattle.std.specs.Prelude.{ℕ, Bool, true, false, List, ◌++◌, codes, Option, Some, None}
use Rattle.std.specs.Io.KnownBytes.{Appends}
use Rattle.wu_core.specs.declared.fault.Fault.{Fault}
use Rattle.wu_core.specs.declared.fault.Fault.TheVariants as fault
use Rattle.wu_drive.specs.Texts.{fault_text}
use Rattle.wu_report.specs.Texts.{line_end}
use Rattle.wu_report.specs.Writing.{AppendsFront}
use Rattle.std.specs.Fmt.{decimal}
use Rattle.wu_feed.specs.declared.script.LineCause.{LineCause}
use Rattle.wu_feed.specs.declared.script.LineCause.TheVariants as cause
use Rattle.wu_arguments.specs.declared.order.Export.TheVariants as export
use Rattle.wu_arguments.specs.declared.refusal.Outsider.{Outsider}
use Rattle.wu_arguments.specs.declared.refusal.Outsider.TheVariants as outsider
use Rattle.wu_arguments.specs.declared.refusal.Refusal.{Refusal}
use Rattle.wu_arguments.specs.declared.refusal.Refusal.TheVariants as refusal
use Rattle.wu_arguments.specs.declared.step.BadLine.{BadLine}
use Rattle.wu_arguments.specs.declared.step.LineFault.{LineFault}
use Rattle.wu_arguments.specs.declared.usage.Usage.{Usage}
use Rattle.wu_arguments.specs.declared.usage.Usage.TheVariants as usage

abbrev pub fault_line : Fault → List ℕ
fault_line fault = fault_text fault ++ line_end

abbrev pub unopened_line : List ℕ
unopened_line = codes "cannot open the database" ++ line_end

-- With `true` exactly this text went out, and else a prefix of it.
abbrev pub WritesAll : Option (List ℕ) → Option (List ℕ) → List ℕ → Bool → Type 0
WritesAll old new text true = Appends old new text
WritesAll old new text false = AppendsFront old new text

-- ---- of a script

-- The number of a script's line, as printed.
abbrev pub line_front : ℕ → List ℕ
line_front number = codes "line " ++ decimal number ++ codes ": "

abbrev pub cause_text : LineCause → List ℕ
cause_text cause.OpenQuote = codes "a quote is not closed" ++ line_end
cause_text cause.NotText = codes "the words are no UTF-8 text" ++ line_end
cause_text cause.TooManyLines = codes "a script has at most 1000 lines" ++ line_end

-- Why words are no line: the text on standard error.
abbrev pub usage_text : Usage → List ℕ
usage_text (usage.Refused text) = text
usage_text usage.UnknownView = codes "unknown view" ++ line_end
usage_text (usage.UnknownTopic None) = codes "unknown topic: lintelthyme explain lists them" ++ line_end
usage_text (usage.UnknownTopic (Some near)) = codes "unknown topic, perhaps " ++ near ++ line_end
usage_text usage.UnknownKind = codes "unknown kind: it is jobs, sends, reports, classes, template or script" ++ line_end
usage_text usage.LongLine = codes "line too long" ++ line_end
usage_text usage.NotText = cause_text cause.NotText
usage_text usage.Incomplete = codes "a value is missing" ++ line_end
usage_text usage.Memory = fault_line fault.Memory

-- The line for something that no script may contain.
abbrev pub outsider_line : Outsider → List ℕ
outsider_line outsider.Script = codes "a script is no line of a script or a session" ++ line_end
outsider_line outsider.Session = codes "a session is no line of a script or a session" ++ line_end
outsider_line outsider.Check = codes "a check is no line of a script or a session" ++ line_end
outsider_line (outsider.Export (export.Backup to)) = codes "a backup cannot stand here" ++ line_end
outsider_line (outsider.Export (export.Outputs files)) = codes "outputs cannot stand here" ++ line_end
outsider_line outsider.Lint = codes "a lint is no line of a script or a session" ++ line_end
outsider_line outsider.Explanation = codes "an explanation is no line of a script or a session" ++ line_end
outsider_line outsider.Help = codes "help is no line of a script or a session" ++ line_end
outsider_line outsider.Database = codes "--db cannot stand here" ++ line_end

abbrev pub refusal_text : Refusal → List ℕ
refusal_text (refusal.Text cause) = cause_text cause
refusal_text (refusal.Words usage) = usage_text usage
refusal_text (refusal.Outsider outsider) = outsider_line outsider
refusal_text refusal.Repeat = codes "only a pass can be repeated" ++ line_end
refusal_text refusal.Try = codes "only a command or a view can be tried" ++ line_end
refusal_text refusal.AfterExport = codes "after a backup or outputs only these can come" ++ line_end
refusal_text (refusal.Fault fault) = fault_line fault

-- The text of the first line that cannot be run, with the reason.
abbrev pub bad_line_text : BadLine → List ℕ
bad_line_text bad = line_front bad.number ++ refusal_text bad.why

-- The text of the line whose fault ended the script, and of the fault.
abbrev pub line_fault_text : LineFault → List ℕ
line_fault_text end = line_front end.number ++ fault_line end.fault
