-- The words that views and faults print.
use Rattle.std.specs.Prelude.{ℕ, List, codes}
use Rattle.wu_core.specs.declared.states.ServerState.{ServerState}
use Rattle.wu_core.specs.declared.states.ServerState.TheVariants as server
use Rattle.wu_core.specs.declared.states.Outcome.{Outcome}
use Rattle.wu_core.specs.declared.states.Outcome.TheVariants as outcome
use Rattle.wu_core.specs.declared.states.ValidateState.{ValidateState}
use Rattle.wu_core.specs.declared.states.ValidateState.TheVariants as validate
use Rattle.wu_core.specs.declared.states.Assimilate.{Assimilate}
use Rattle.wu_core.specs.declared.states.Assimilate.TheVariants as assimilate
use Rattle.wu_core.specs.declared.states.FileDelete.{FileDelete}
use Rattle.wu_core.specs.declared.states.FileDelete.TheVariants as file_delete
use Rattle.wu_core.specs.declared.states.Status.{Status}
use Rattle.wu_core.specs.declared.states.Status.TheVariants as status
use Rattle.wu_core.specs.declared.fault.TemplateKey.{TemplateKey}
use Rattle.wu_core.specs.declared.fault.TemplateKey.TheVariants as key
use Rattle.wu_core.specs.declared.fault.FileCause.{FileCause}
use Rattle.wu_core.specs.declared.fault.FileCause.TheVariants as cause
use Rattle.wu_core.specs.declared.import.ImportKind.{ImportKind}
use Rattle.wu_core.specs.declared.import.ImportKind.TheVariants as kind

-- BOINC's word for the state of an instance.
abbrev pub server_state_word : ServerState → List ℕ
server_state_word server.Inactive = codes "INACTIVE"
server_state_word server.Unsent = codes "UNSENT"
server_state_word server.InProgress = codes "IN_PROGRESS"
server_state_word server.Over = codes "OVER"

-- BOINC's word for how an instance ended.
abbrev pub outcome_word : Outcome → List ℕ
outcome_word outcome.Init = codes "INIT"
outcome_word outcome.Success = codes "SUCCESS"
outcome_word outcome.CouldntSend = codes "COULDNT_SEND"
outcome_word outcome.ClientError = codes "CLIENT_ERROR"
outcome_word outcome.NoReply = codes "NO_REPLY"
outcome_word outcome.DidntNeed = codes "DIDNT_NEED"
outcome_word outcome.ValidateError = codes "VALIDATE_ERROR"
outcome_word outcome.ClientDetached = codes "CLIENT_DETACHED"

-- BOINC's word for a verdict.
abbrev pub validate_state_word : ValidateState → List ℕ
validate_state_word validate.Init = codes "INIT"
validate_state_word validate.Valid = codes "VALID"
validate_state_word validate.Invalid = codes "INVALID"
validate_state_word validate.NoCheck = codes "NO_CHECK"
validate_state_word validate.Inconclusive = codes "INCONCLUSIVE"
validate_state_word validate.TooLate = codes "TOO_LATE"

-- The word for how far the assimilation of a workunit is.
abbrev pub assimilate_word : Assimilate → List ℕ
assimilate_word assimilate.Init = codes "INIT"
assimilate_word assimilate.Ready = codes "READY"
assimilate_word assimilate.Done = codes "DONE"

-- The word for how far the deletion of an input or an output is.
abbrev pub file_delete_word : FileDelete → List ℕ
file_delete_word file_delete.Init = codes "INIT"
file_delete_word file_delete.Ready = codes "READY"
file_delete_word file_delete.Done = codes "DONE"
file_delete_word file_delete.Error = codes "ERROR"

-- The word of the subcommand that imports such a file.
abbrev pub import_kind_word : ImportKind → List ℕ
import_kind_word kind.Batch = codes "batch"
import_kind_word kind.Sent = codes "sent"
import_kind_word kind.Reported = codes "reported"
import_kind_word kind.Classes = codes "classes"

-- The word of a status in a file of reports.
abbrev pub status_word : Status → List ℕ
status_word status.Success = codes "success"
status_word status.ClientError = codes "client_error"
status_word status.Detached = codes "detached"

-- The name of a template's key, or the word for what is wrong with a whole template.
abbrev pub template_key_word : TemplateKey → List ℕ
template_key_word key.Document = codes "document"
template_key_word key.Unknown = codes "unknown"
template_key_word key.MinQuorum = codes "min_quorum"
template_key_word key.TargetNresults = codes "target_nresults"
template_key_word key.MaxErrorResults = codes "max_error_results"
template_key_word key.MaxTotalResults = codes "max_total_results"
template_key_word key.MaxSuccessResults = codes "max_success_results"
template_key_word key.DelayBound = codes "delay_bound"
template_key_word key.Credit = codes "credit"

-- The word for what is wrong with a file.
abbrev pub file_cause_word : FileCause → List ℕ
file_cause_word cause.Unreadable = codes "unreadable"
file_cause_word cause.TooLong = codes "too_long"
file_cause_word cause.Header = codes "header"
file_cause_word cause.TooManyRows = codes "too_many_rows"
file_cause_word cause.Fields = codes "fields"
file_cause_word cause.Name = codes "name"
file_cause_word cause.Input = codes "input"
file_cause_word cause.Result = codes "result"
file_cause_word cause.Host = codes "host"
file_cause_word cause.Moment = codes "moment"
file_cause_word cause.Status = codes "status"
file_cause_word cause.Output = codes "output"
file_cause_word cause.Class = codes "class"
