-- One instance, and what the rules make of it. The names and the states are BOINC's; the rules are this project's
-- profile.
use Rattle.std.specs.Prelude.{ℕ, nat_lt, Bool, true, false, not, ◌&&◌, ◌||◌, if◌then◌else◌}
use Rattle.std.specs.Option.{option_map_or}
use Rattle.wu_core.specs.declared.workunit.Instance.{Instance}
use Rattle.wu_core.specs.declared.states.ServerState.{ServerState}
use Rattle.wu_core.specs.declared.states.ServerState.TheVariants as server
use Rattle.wu_core.specs.declared.states.Outcome.{Outcome}
use Rattle.wu_core.specs.declared.states.Outcome.TheVariants as outcome
use Rattle.wu_core.specs.declared.states.ValidateState.{ValidateState}
use Rattle.wu_core.specs.declared.states.ValidateState.TheVariants as validate
use Rattle.wu_core.specs.declared.states.Assimilate.{Assimilate}
use Rattle.wu_core.specs.declared.states.Assimilate.TheVariants as assimilate
use Rattle.wu_core.specs.declared.states.FileDelete.{FileDelete}
use Rattle.wu_core.specs.declared.states.FileDelete.TheVariants as file_delete

abbrev pub is_unsent_state : ServerState → Bool
is_unsent_state server.Unsent = true
is_unsent_state _ = false

abbrev pub is_in_progress_state : ServerState → Bool
is_in_progress_state server.InProgress = true
is_in_progress_state _ = false

abbrev pub is_over_state : ServerState → Bool
is_over_state server.Over = true
is_over_state _ = false

abbrev pub is_success_outcome : Outcome → Bool
is_success_outcome outcome.Success = true
is_success_outcome _ = false

abbrev pub is_error_outcome : Outcome → Bool
is_error_outcome outcome.ClientError = true
is_error_outcome outcome.ValidateError = true
is_error_outcome _ = false

abbrev pub is_init_verdict : ValidateState → Bool
is_init_verdict validate.Init = true
is_init_verdict _ = false

abbrev pub is_invalid_verdict : ValidateState → Bool
is_invalid_verdict validate.Invalid = true
is_invalid_verdict _ = false

-- Whether the verdict is not final.
abbrev pub is_open_verdict : ValidateState → Bool
is_open_verdict validate.Init = true
is_open_verdict validate.Inconclusive = true
is_open_verdict _ = false

abbrev pub is_init_assimilate : Assimilate → Bool
is_init_assimilate assimilate.Init = true
is_init_assimilate _ = false

abbrev pub is_ready_assimilate : Assimilate → Bool
is_ready_assimilate assimilate.Ready = true
is_ready_assimilate _ = false

abbrev pub is_done_assimilate : Assimilate → Bool
is_done_assimilate assimilate.Done = true
is_done_assimilate _ = false

abbrev pub is_init_file : FileDelete → Bool
is_init_file file_delete.Init = true
is_init_file _ = false

abbrev pub is_ready_file : FileDelete → Bool
is_ready_file file_delete.Ready = true
is_ready_file _ = false

abbrev pub is_deleted_file : FileDelete → Bool
is_deleted_file file_delete.Done = true
is_deleted_file _ = false

abbrev pub is_unsent : Instance → Bool
is_unsent i = is_unsent_state i.server_state

abbrev pub is_in_progress : Instance → Bool
is_in_progress i = is_in_progress_state i.server_state

abbrev pub is_over : Instance → Bool
is_over i = is_over_state i.server_state

-- A success is an instance that is over with outcome SUCCESS.
abbrev pub is_success : Instance → Bool
is_success i = is_over_state i.server_state && is_success_outcome i.outcome

-- A new success has no verdict yet.
abbrev pub is_new : Instance → Bool
is_new i = is_success i && is_init_verdict i.validate_state

-- A viable success has no final verdict.
abbrev pub is_viable : Instance → Bool
is_viable i = is_success i && is_open_verdict i.validate_state

-- An active instance binds its workunit to the class of its host: it is in progress, or a viable success.
abbrev pub is_active : Instance → Bool
is_active i = is_in_progress i || is_viable i

-- A kept success is one that is not INVALID.
abbrev pub is_kept : Instance → Bool
is_kept i = is_success i && not (is_invalid_verdict i.validate_state)

-- An error is an instance with outcome CLIENT_ERROR or VALIDATE_ERROR.
abbrev pub is_error : Instance → Bool
is_error i = is_error_outcome i.outcome

-- An overdue instance is in progress with a deadline before now.
abbrev pub is_overdue : ℕ → Instance → Bool
is_overdue now i = is_in_progress i && option_map_or (λ deadline. nat_lt deadline now) i.deadline false

-- The instance, over because its host never replied.
abbrev pub without_reply : Instance → Instance
without_reply i = record i { server_state = server.Over; outcome = outcome.NoReply }

-- The instance, over without a reply if it is overdue; any other stays.
abbrev pub timed_out : ℕ → Instance → Instance
timed_out now i = if is_overdue now i then without_reply i else i

-- The instance, over because it was not needed if it is unsent; any other stays.
abbrev pub closed : Instance → Instance
closed i = if is_unsent i then record i { server_state = server.Over; outcome = outcome.DidntNeed } else i

-- The instance of a workunit that is given up: closed if unsent, and not checked if a viable success.
abbrev pub given_up : Instance → Instance
given_up i = if is_viable i then record i { validate_state = validate.NoCheck } else closed i

-- A workunit that waited for a decision is ready to be assimilated.
abbrev pub readied_assimilate : Assimilate → Assimilate
readied_assimilate a = if is_init_assimilate a then assimilate.Ready else a

-- A file that may be deleted is ready for deletion, if it was not yet.
abbrev pub readied_file : Bool → FileDelete → FileDelete
readied_file may_go f = if may_go && is_init_file f then file_delete.Ready else f

-- The instance, with its output ready for deletion if it may be deleted.
abbrev pub output_readied : Bool → Instance → Instance
output_readied may_go i = record i { file_delete = readied_file may_go i.file_delete }
