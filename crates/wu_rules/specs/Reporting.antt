-- A host reports an instance of a workunit: the verdict, and what it makes of the workunit.
use Rattle.std.specs.Prelude.{ℕ, nat_lt, Bool, true, false, not, ◌&&◌, if◌then◌else◌, List, is_none, slice_get, Some}
use Rattle.std.specs.Option.{option_map_or}
use Rattle.wu_core.specs.declared.workunit.Instance.{Instance}
use Rattle.wu_core.specs.declared.workunit.Workunit.{Workunit}
use Rattle.wu_core.specs.declared.states.ServerState.TheVariants as server
use Rattle.wu_core.specs.declared.states.Outcome.{Outcome}
use Rattle.wu_core.specs.declared.states.Outcome.TheVariants as outcome
use Rattle.wu_core.specs.declared.states.Status.{Status}
use Rattle.wu_core.specs.declared.states.ValidateState.TheVariants as validate
use Rattle.wu_core.specs.declared.states.FileDelete.TheVariants as file_delete
use Rattle.wu_core.specs.Statuses.{outcome_of}
use Rattle.wu_core.specs.Workunit.{with_instance_set}
use Rattle.wu_rules.specs.Instances.{is_over}
use Rattle.wu_rules.specs.Sending.{is_of}
use Rattle.wu_rules.specs.declared.verdicts.ReportVerdict.{ReportVerdict}
use Rattle.wu_rules.specs.declared.verdicts.ReportVerdict.TheVariants as verdict

abbrev pub is_no_reply : Outcome → Bool
is_no_reply outcome.NoReply = true
is_no_reply _ = false

-- Whether the instance was sent after this moment.
abbrev pub is_sent_after : ℕ → Instance → Bool
is_sent_after moment instance = option_map_or (nat_lt moment) instance.sent_at false

-- A report is applied to an instance that was sent to this host by this moment, and that is not over except for a
-- missing reply.
abbrev pub report_verdict_of : List ℕ → ℕ → Instance → ReportVerdict
report_verdict_of host moment instance =
    if is_none instance.host then verdict.NotSent
    else if not (is_of host instance) then verdict.WrongHost
    else if is_sent_after moment instance then verdict.BeforeSent
    else if is_over instance && not (is_no_reply instance.outcome) then verdict.Over
    else verdict.Applied

-- The verdict on a report of the instance of this number; `Unknown` if the workunit has none.
abbrev pub report_verdict_in : Workunit → ℕ → List ℕ → ℕ → ReportVerdict
report_verdict_in w n host moment = option_map_or (report_verdict_of host moment) (slice_get w.instances n) verdict.Unknown

-- The instance, over at this moment as the host reports, with its output and without a verdict.
abbrev pub reported_as : ℕ → Status → List ℕ → Instance → Instance
reported_as moment status output instance = record instance {
  server_state = server.Over;
  outcome = outcome_of status;
  validate_state = validate.Init;
  file_delete = file_delete.Init;
  received_at = Some moment;
  output = output;
}

-- The workunit with its instance of this number reported.
abbrev pub reported_in : Workunit → ℕ → ℕ → Status → List ℕ → Workunit
reported_in w n moment status output =
    option_map_or (λ instance. with_instance_set w n (reported_as moment status output instance)) (slice_get w.instances n) w
