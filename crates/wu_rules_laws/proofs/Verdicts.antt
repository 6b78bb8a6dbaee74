-- No rule changes a final verdict.
use Rattle.std.proofs.Common.{◌≡◌, ℕ, List, slice_get, slice_set, Option, Some, None, option_map, refl, ◌∙◌}
use Rattle.std.specs.Option.{option_map_or}
use Rattle.wu_core.specs.Workunit.{with_instance_set}
use Rattle.wu_core.specs.declared.workunit.Instance.{Instance}
use Rattle.wu_core.specs.declared.workunit.Workunit.{Workunit}
use Rattle.wu_core.specs.declared.states.Assimilate.TheVariants as assimilate
use Rattle.wu_core.specs.declared.states.Status.{Status}
use Rattle.wu_rules.specs.Assimilation.{assimilated, emptied}
use Rattle.wu_rules.specs.Cancelling.{cancelled}
use Rattle.wu_rules.specs.Instances.{is_ready_assimilate}
use Rattle.wu_rules.specs.Reporting.{report_verdict_in, reported_as, reported_in}
use Rattle.wu_rules.specs.Sending.{sent_as, sent_in, sent_to}
use Rattle.wu_rules.specs.Transition.{transitioned}
use Rattle.wu_rules.specs.declared.verdicts.ReportVerdict.TheVariants as report
use Rattle.wu_rules_laws.specs.Consistent.{RulesKeepVerdicts}
use Rattle.wu_rules.specs.Consistent.{IsConsistent, IsPossible, KeepsVerdicts}
use Rattle.wu_rules_laws.proofs.Becoming.{all_become-set, becomes_reported, final_at, none_made}
use Rattle.wu_rules_laws.proofs.Changed.{cond_has}
use Rattle.wu_rules_laws.proofs.Following.{Follows, follows_cancelled, quietly_emptied, quietly_transitioned, verdicts_kept}
use Rattle.wu_rules_laws.proofs.Hosted.{at_set}
use Rattle.wu_rules_laws.proofs.Judged.{finals_stay}
use Rattle.wu_rules_laws.proofs.Kept.{reported_has}
use Rattle.wu_rules_laws.proofs.Rewriting.{holds_at, was_no_success, was_not_refused}

-- no change
pub verdicts_unchanged : (w : Workunit) → KeepsVerdicts w w
verdicts_unchanged w = verdicts_kept w w (λ n u e final. e)

-- where nothing is made VALID
verdicts_follow : (w v : Workunit) → Follows w.instances v.instances → KeepsVerdicts w v
verdicts_follow w v h = verdicts_kept w v h.final

-- the assimilator
verdicts_assimilated : (w : Workunit) (now : ℕ) → KeepsVerdicts w (assimilated w now)
unfolding assimilated
verdicts_assimilated w now =
    cond_has (KeepsVerdicts w) (is_ready_assimilate w.assimilate) (record w { assimilate = assimilate.Done; done_at = Some now }) w
    (verdicts_unchanged w) (verdicts_unchanged w)

-- a send, to whatever host
verdicts_sent : (w : Workunit) (n : ℕ) (host : List ℕ) (class : ℕ) (moment : ℕ) → KeepsVerdicts w (sent_in w n host class moment)
verdicts_sent w n host class moment = by_case (slice_get w.instances n) refl
  where
    by_case : (o : Option Instance) → slice_get w.instances n ≡ o
        → KeepsVerdicts w (option_map_or (sent_as w n host class moment) o w)
    by_case None e = verdicts_unchanged w
    by_case (Some i) e =
        let j = sent_to w host moment i in
        verdicts_kept w (sent_as w n host class moment i) (λ k u f final. at_set (λ o. option_map (λ (x : Instance). x.validate_state) o) w.instances n i j e refl k ∙ f)

-- a report that is taken of a consistent workunit
verdicts_reported : (w : Workunit) (n : ℕ) (host : List ℕ) (moment : ℕ) (status : Status) (output : List ℕ) → IsConsistent w
    → report_verdict_in w n host moment ≡ report.Applied
    → KeepsVerdicts w (reported_in w n moment status output)
verdicts_reported w n host moment status output h applied = reported_has (KeepsVerdicts w) w n host moment status output applied (λ i e f.
    let j = reported_as moment status output i in
    let possible = holds_at IsPossible w.instances n i h.instances e in
    let becomes = becomes_reported moment status output i possible (was_no_success host moment i f) (was_not_refused host moment i possible f) in
    verdicts_kept w (with_instance_set w n j) (final_at none_made w.instances (slice_set w.instances n j) (all_become-set w.instances n i j e becomes)))

-- all rules
pub rules_keep_verdicts : (w : Workunit) → RulesKeepVerdicts w
rules_keep_verdicts w = record {
  transitioned = λ now. verdicts_follow w (transitioned w now) (quietly_transitioned w now).instances;
  validated = finals_stay w;
  assimilated = verdicts_assimilated w;
  emptied = verdicts_follow w (emptied w) (quietly_emptied w).instances;
  cancelled = verdicts_follow w (cancelled w) (follows_cancelled w);
  sent = verdicts_sent w;
  reported = verdicts_reported w;
}
