-- BOINC's numbers of states, as tables store them.
use Rattle.std.specs.Prelude.{◌≡◌, ℕ, Option, Some, IfSome}
use Rattle.wu_core.specs.declared.states.ServerState.{ServerState}
use Rattle.wu_core.specs.declared.states.ServerState.TheVariants as server
use Rattle.wu_core.specs.declared.states.Outcome.{Outcome}
use Rattle.wu_core.specs.declared.states.Outcome.TheVariants as outcome
use Rattle.wu_core.specs.declared.states.ValidateState.{ValidateState}
use Rattle.wu_core.specs.declared.states.ValidateState.TheVariants as validate
use Rattle.wu_core.specs.declared.states.Assimilate.{Assimilate}
use Rattle.wu_core.specs.declared.states.Assimilate.TheVariants as assimilate
use Rattle.wu_core.specs.declared.states.FileDelete.{FileDelete}
use Rattle.wu_core.specs.declared.states.FileDelete.TheVariants as file_delete
use Rattle.wu_core.specs.declared.import.ImportKind.{ImportKind}
use Rattle.wu_core.specs.declared.import.ImportKind.TheVariants as kind

-- The number of a value reads as that value, and any other number reads as `None`.
pub record Decodes {T : Type 0} (code_of : T → ℕ) (code : ℕ) (read : Option T) : Type 0 where
  pub found : (value : T) → code_of value ≡ code → read ≡ Some value
  pub coded : IfSome read (λ value. code_of value ≡ code)

-- The number of the state of an instance; 3 is not used.
abbrev pub server_state_code : ServerState → ℕ
server_state_code server.Inactive = 1
server_state_code server.Unsent = 2
server_state_code server.InProgress = 4
server_state_code server.Over = 5

-- The number of how an instance ended.
abbrev pub outcome_code : Outcome → ℕ
outcome_code outcome.Init = 0
outcome_code outcome.Success = 1
outcome_code outcome.CouldntSend = 2
outcome_code outcome.ClientError = 3
outcome_code outcome.NoReply = 4
outcome_code outcome.DidntNeed = 5
outcome_code outcome.ValidateError = 6
outcome_code outcome.ClientDetached = 7

-- The number of an instance's verdict.
abbrev pub validate_state_code : ValidateState → ℕ
validate_state_code validate.Init = 0
validate_state_code validate.Valid = 1
validate_state_code validate.Invalid = 2
validate_state_code validate.NoCheck = 3
validate_state_code validate.Inconclusive = 4
validate_state_code validate.TooLate = 5

-- The number of how far the assimilation of a workunit is.
abbrev pub assimilate_code : Assimilate → ℕ
assimilate_code assimilate.Init = 0
assimilate_code assimilate.Ready = 1
assimilate_code assimilate.Done = 2

-- The number of how far the deletion of an input or an output is.
abbrev pub file_delete_code : FileDelete → ℕ
file_delete_code file_delete.Init = 0
file_delete_code file_delete.Ready = 1
file_delete_code file_delete.Done = 2
file_delete_code file_delete.Error = 3

-- The number of the kind of an import.
abbrev pub import_kind_code : ImportKind → ℕ
import_kind_code kind.Batch = 1
import_kind_code kind.Sent = 2
import_kind_code kind.Reported = 3
import_kind_code kind.Classes = 4
