-- What ends a run of the program before all is done: its text on standard error, and its status.
use Rattle.std.specs.Prelude.{ℕ, List}
use Rattle.std.specs.declared.io.ErrorKind.{ErrorKind}
use Rattle.std.specs.declared.io.ErrorKind.TheVariants.{OutOfMemory}
use Rattle.wu_core.specs.declared.fault.Fault.{Fault}
use Rattle.wu_core.specs.declared.fault.Fault.TheVariants as fault
use Rattle.wu_arguments.specs.declared.usage.Usage.TheVariants.{NotText}
use Rattle.wu_arguments.specs.Statuses.{fault_status, refusal_status, usage_status}
use Rattle.wu_cli.specs.Backups.{unmade_line, unmade_status}
use Rattle.wu_cli.specs.Checks.{finding_line, reason_line, reason_status}
use Rattle.wu_cli.specs.Outputs.{lost_line, no_folder_line}
use Rattle.wu_cli.specs.Linting.{unread_text}
use Rattle.wu_cli.specs.Endings.{bad_line_text, fault_line, line_fault_text, unopened_line, usage_text}
use Rattle.wu_cli.specs.declared.trouble.Trouble.{Trouble}
use Rattle.wu_cli.specs.declared.trouble.Trouble.TheVariants as trouble

-- The status of a trouble. 3: the database cannot be opened; 1: it holds no sound project; else that of refused words
-- or of a fault.
abbrev pub trouble_status : Trouble → ℕ
trouble_status (trouble.Usage usage) = usage_status usage
trouble_status (trouble.BadLine bad) = refusal_status bad.why
trouble_status trouble.Unopened = 3
trouble_status (trouble.Fault fault) = fault_status fault
trouble_status (trouble.LineFault end) = fault_status end.fault
trouble_status (trouble.Unchecked reason) = reason_status reason
trouble_status (trouble.Unsound finding) = 1
trouble_status (trouble.Unmade why) = unmade_status why
trouble_status trouble.NoFolder = 1
trouble_status (trouble.Lost lost) = unmade_status lost.why
trouble_status (trouble.Unread unread) = fault_status unread.fault

abbrev pub trouble_text : Trouble → List ℕ
trouble_text (trouble.Usage usage) = usage_text usage
trouble_text (trouble.BadLine bad) = bad_line_text bad
trouble_text trouble.Unopened = unopened_line
trouble_text (trouble.Fault fault) = fault_line fault
trouble_text (trouble.LineFault end) = line_fault_text end
trouble_text (trouble.Unchecked reason) = reason_line reason
trouble_text (trouble.Unsound finding) = finding_line finding
trouble_text (trouble.Unmade why) = unmade_line why
trouble_text trouble.NoFolder = no_folder_line
trouble_text (trouble.Lost lost) = lost_line lost
trouble_text (trouble.Unread unread) = unread_text unread

-- The trouble of a failed opening: out of memory, or else that the database cannot be opened.
abbrev pub trouble_of_opening : Fault → Trouble
trouble_of_opening fault.Memory = trouble.Fault fault.Memory
trouble_of_opening _ = trouble.Unopened

-- ---- the words of a process

-- The trouble of words that a process could not get: out of memory, or else they are no text.
abbrev pub unheard : ErrorKind → Trouble
unheard OutOfMemory = trouble.Fault fault.Memory
unheard _ = trouble.Usage NotText
