-- The status that the program ends with.
use Rattle.std.specs.Prelude.{ℕ, Option, Some, None}
use Rattle.wu_core.specs.declared.fault.Fault.{Fault}
use Rattle.wu_core.specs.declared.fault.Fault.TheVariants as fault
use Rattle.wu_arguments.specs.declared.refusal.Refusal.{Refusal}
use Rattle.wu_arguments.specs.declared.refusal.Refusal.TheVariants as refusal
use Rattle.wu_arguments.specs.declared.step.LineFault.{LineFault}
use Rattle.wu_arguments.specs.declared.usage.Usage.{Usage}
use Rattle.wu_arguments.specs.declared.usage.Usage.TheVariants as usage

-- The status of a fault. 1: refused; 3: the database failed, or its session had ended; 4: out of memory; 5: the output
-- failed.
abbrev pub fault_status : Fault → ℕ
fault_status fault.Memory = 4
fault_status fault.Broken = 3
fault_status fault.Ended = 3
fault_status fault.Output = 5
fault_status _ = 1

-- The status after a run: 0 if nothing failed.
abbrev pub exit_status : Option Fault → ℕ
exit_status None = 0
exit_status (Some fault) = fault_status fault

-- The status of words that are no line: 2, or 4 for out of memory.
abbrev pub usage_status : Usage → ℕ
usage_status usage.Memory = fault_status fault.Memory
usage_status _ = 2

-- ---- of a script

-- The status of a script's line that cannot be run.
abbrev pub refusal_status : Refusal → ℕ
refusal_status (refusal.Text cause) = 2
refusal_status (refusal.Words usage) = usage_status usage
refusal_status (refusal.Outsider outsider) = 2
refusal_status refusal.Repeat = 2
refusal_status refusal.Try = 2
refusal_status refusal.AfterExport = 2
refusal_status (refusal.Fault fault) = fault_status fault

abbrev pub status_of_line : Option LineFault → ℕ
status_of_line None = 0
status_of_line (Some end) = fault_status end.fault
