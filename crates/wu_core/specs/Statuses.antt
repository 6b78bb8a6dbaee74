-- How a host reports that an instance ended.
use Rattle.std.specs.Prelude.{ℕ, if◌then◌else◌, List, bytes_eq, Option, Some, None}
use Rattle.wu_core.specs.declared.states.Status.{Status}
use Rattle.wu_core.specs.declared.states.Status.TheVariants as status
use Rattle.wu_core.specs.declared.states.Outcome.{Outcome}
use Rattle.wu_core.specs.declared.states.Outcome.TheVariants as outcome
use Rattle.wu_core.specs.Words.{status_word}

-- The status that a word means, or `None`.
abbrev pub status_of : List ℕ → Option Status
status_of text =
    if bytes_eq text (status_word status.Success) then Some status.Success
    else if bytes_eq text (status_word status.ClientError) then Some status.ClientError
    else if bytes_eq text (status_word status.Detached) then Some status.Detached
    else None

-- The outcome of an instance that is reported with this status.
abbrev pub outcome_of : Status → Outcome
outcome_of status.Success = outcome.Success
outcome_of status.ClientError = outcome.ClientError
outcome_of status.Detached = outcome.ClientDetached
