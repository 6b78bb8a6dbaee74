-- An instance of a workunit is sent to a host: the verdict, and what it makes of the workunit.
use Rattle.std.specs.Prelude.{ℕ, ◌+◌, ◌==◌, Bool, false, not, ◌&&◌, if◌then◌else◌, List, bytes_eq, slice_get, Some}
use Rattle.std.specs.List.{list_any}
use Rattle.std.specs.Option.{option_map_or}
use Rattle.wu_core.specs.declared.workunit.Instance.{Instance}
use Rattle.wu_core.specs.declared.workunit.Workunit.{Workunit}
use Rattle.wu_core.specs.declared.states.ServerState.TheVariants as server
use Rattle.wu_core.specs.Workunit.{with_instance_set}
use Rattle.wu_rules.specs.Counts.{has_active}
use Rattle.wu_rules.specs.Instances.{is_unsent}
use Rattle.wu_rules.specs.declared.verdicts.SendVerdict.{SendVerdict}
use Rattle.wu_rules.specs.declared.verdicts.SendVerdict.TheVariants as verdict

-- Whether the instance is at this host.
abbrev pub is_of : List ℕ → Instance → Bool
is_of host instance = option_map_or (λ its. bytes_eq its host) instance.host false

-- Whether the workunit is active and bound to another class than this.
abbrev pub is_bound_elsewhere : Workunit → ℕ → Bool
is_bound_elsewhere w class = has_active w && not (w.class == class)

-- A send is applied to an unsent instance whose workunit has no instance at this host, and is not bound to another
-- class.
abbrev pub send_verdict_of : Workunit → List ℕ → ℕ → Instance → SendVerdict
send_verdict_of w host class instance =
    if not (is_unsent instance) then verdict.NotUnsent
    else if list_any (is_of host) w.instances then verdict.SameHost
    else if is_bound_elsewhere w class then verdict.Class
    else verdict.Applied

-- The verdict on a send of the instance of this number; `Unknown` if the workunit has none.
abbrev pub send_verdict_in : Workunit → ℕ → List ℕ → ℕ → SendVerdict
send_verdict_in w n host class = option_map_or (send_verdict_of w host class) (slice_get w.instances n) verdict.Unknown

-- The instance, sent to the host at this moment, with this deadline.
abbrev pub due_at : ℕ → List ℕ → ℕ → Instance → Instance
due_at deadline host moment instance = record instance {
  server_state = server.InProgress;
  host = Some host;
  sent_at = Some moment;
  deadline = Some deadline;
}

-- The instance, sent to the host at this moment, with a deadline after its workunit's delay.
abbrev pub sent_to : Workunit → List ℕ → ℕ → Instance → Instance
sent_to w host moment = due_at (moment + w.params.delay_bound) host moment

-- The workunit of this class, with its instance of this number sent.
abbrev pub sent_as : Workunit → ℕ → List ℕ → ℕ → ℕ → Instance → Workunit
sent_as w n host class moment instance = record (with_instance_set w n (sent_to w host moment instance)) { class = class }

-- The workunit with its instance of this number sent to a host of this class, to which it is then bound.
abbrev pub sent_in : Workunit → ℕ → List ℕ → ℕ → ℕ → Workunit
sent_in w n host class moment = option_map_or (sent_as w n host class moment) (slice_get w.instances n) w
