-- The texts of answers and of faults, as functions of values. Each line ends with a line feed.
use Rattle.std.specs.Prelude.{ℕ, ◌-◌, List, ◌++◌, length, codes, Option}
use Rattle.std.specs.Fmt.{decimal}
use Rattle.wu_core.specs.declared.fault.Fault.{Fault}
use Rattle.wu_core.specs.declared.fault.Fault.TheVariants as fault
use Rattle.wu_core.specs.declared.import.ImportKind.{ImportKind}
use Rattle.wu_core.specs.declared.import.ImportKind.TheVariants as kind
use Rattle.wu_core.specs.Words.{template_key_word, file_cause_word}
use Rattle.wu_report.specs.Texts.{applied_count, line_end, number_or_dash, pass_word, report_skip_word, send_skip_word, skip_lines}
use Rattle.wu_machine.specs.Requests.{Reply, Imported, Passed, Cancelled, Upgraded}

-- The text of a fault, without the end of its line.
abbrev pub fault_text : Fault → List ℕ
fault_text fault.BadName = codes "F1 BadName"
fault_text (fault.BadTemplate key) = codes "F2 BadTemplate " ++ template_key_word key
fault_text (fault.BadFile row cause) = codes "F3 BadFile " ++ decimal row ++ codes " " ++ file_cause_word cause
fault_text fault.NameUsed = codes "F4 NameUsed"
fault_text (fault.WorkunitUsed row) = codes "F5 WorkunitUsed " ++ decimal row
fault_text fault.TooMany = codes "F6 TooMany"
fault_text fault.BadMoment = codes "F7 BadMoment"
fault_text fault.BadLimit = codes "F8 BadLimit"
fault_text fault.UnknownWorkunit = codes "F9 UnknownWorkunit"
fault_text fault.NotOpenToCancel = codes "F10 NotOpenToCancel"
fault_text (fault.OldSchema version) = codes "F11 OldSchema " ++ decimal version
fault_text (fault.NewSchema version) = codes "F12 NewSchema " ++ decimal version
fault_text fault.NotAProject = codes "F13 NotAProject"
fault_text fault.Memory = codes "F14 Memory"
fault_text fault.Broken = codes "F15 Broken"
fault_text fault.Ended = codes "F16 Ended"
fault_text fault.Output = codes "F17 Output"

-- How many rows of a file were applied, how many were skipped, and why each of these was skipped.
abbrev pub rows_text : List ℕ → List ℕ → (ℕ → Option (List ℕ)) → List ℕ → List ℕ
rows_text word name skip_word verdicts =
    word ++ codes " " ++ name ++ codes ": " ++ decimal (applied_count verdicts) ++ codes " applied, "
    ++ decimal (length verdicts - applied_count verdicts) ++ codes " skipped" ++ line_end
    ++ skip_lines skip_word verdicts

-- How many workunits a batch added, and the number of the first.
abbrev pub batch_text : List ℕ → ℕ → List ℕ → List ℕ
batch_text name first verdicts =
    codes "batch " ++ name ++ codes ": " ++ decimal (length verdicts) ++ codes " added, first " ++ number_or_dash first ++ line_end

-- How many rows a file of classes had; each set the class of its host.
abbrev pub classes_text : List ℕ → List ℕ → List ℕ
classes_text name verdicts = codes "classes " ++ name ++ codes ": " ++ decimal (length verdicts) ++ codes " applied" ++ line_end

abbrev pub import_text : ImportKind → List ℕ → ℕ → List ℕ → List ℕ
import_text kind.Batch name first verdicts = batch_text name first verdicts
import_text kind.Sent name first verdicts = rows_text (codes "sent") name send_skip_word verdicts
import_text kind.Reported name first verdicts = rows_text (codes "reported") name report_skip_word verdicts
import_text kind.Classes name first verdicts = classes_text name verdicts

-- The text of an answer.
abbrev pub reply_text : Reply → List ℕ
reply_text (Imported kind name first verdicts) = import_text kind name first verdicts
reply_text (Passed pass handled) = pass_word pass ++ codes ": " ++ decimal handled ++ line_end
reply_text (Cancelled name) = codes "cancel " ++ name ++ codes ": done" ++ line_end
reply_text (Upgraded from to) = codes "upgrade: " ++ decimal from ++ codes " to " ++ decimal to ++ line_end
