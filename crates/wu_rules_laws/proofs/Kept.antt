-- The rules keep workunits well formed.
use Rattle.std.proofs.Common.{◌≡◌, ◌⊎◌, ℕ, ◌<◌, ◌≤◌, true, List, length, Option, Some, None, is_some, refl, sym, ap, subst, ◌∙◌, inl, inr, arith}
use Rattle.std.proofs.lemmas.List.{length-set}
use Rattle.std.proofs.lemmas.List.Elements.{All-set}
use Rattle.std.proofs.lemmas.Option.{slice_get_within, get_or_from_slice_get}
use Rattle.std.specs.List.{slice_get}
use Rattle.std.specs.Option.{option_map_or}
use Rattle.wu_core.specs.Formed.{IsInstance, IsWorkunit}
use Rattle.wu_core.specs.Workunit.{with_instance_set}
use Rattle.wu_core.specs.declared.workunit.Instance.{Instance}
use Rattle.wu_core.specs.declared.workunit.Workunit.{Workunit}
use Rattle.wu_core.specs.declared.states.Assimilate.TheVariants as assimilate
use Rattle.wu_core.specs.declared.states.Status.{Status}
use Rattle.wu_rules.specs.Instances.{is_ready_assimilate}
use Rattle.wu_rules.specs.Transition.{transitioned}
use Rattle.wu_rules.specs.Validation.{checked, concluded, validated}
use Rattle.wu_rules.specs.Assimilation.{assimilated, emptied}
use Rattle.wu_rules.specs.Cancelling.{cancelled}
use Rattle.wu_rules.specs.Reporting.{report_verdict_of, report_verdict_in, reported_as, reported_in}
use Rattle.wu_rules.specs.Sending.{sent_as, sent_in, sent_to}
use Rattle.wu_rules.specs.declared.verdicts.ReportVerdict.TheVariants as report
use Rattle.wu_rules.proofs.Keeping.{formed_stays, Keeps, keeps_cancelled, keeps_checked, keeps_concluded, keeps_emptied, keeps_transitioned, keeps_validated}
use Rattle.wu_rules_laws.specs.Laws.{KeepsFormed}
use Rattle.wu_rules_laws.proofs.Changed.{cond_has}

-- ---- the rules

formed_by : (w v : Workunit) → Keeps IsInstance w v → IsWorkunit w → IsWorkunit v
formed_by w v keeps h = record {
  parameters = keeps.parameters (let le = h.within in let most = h.parameters.max_total_results.1 in omega (arith, le, most)) h.parameters;
  instances = keeps.each h.instances;
  within = subst (λ total. length v.instances ≤ total) (sym keeps.total) (keeps.room w.params.max_total_results (omega arith) h.within);
  canonical = λ n e. among n (keeps.canonical n e);
  done = λ e. ap is_some keeps.done_at ∙ h.done (keeps.done e);
  done_only = λ e. keeps.stays_done (h.done_only (sym (ap is_some keeps.done_at) ∙ e));
}
  where
    among : (n : ℕ) → (w.canonical ≡ Some n) ⊎ (n < length v.instances) → n < length v.instances
    among n (inl e) = (let lt = h.canonical n e in let le = keeps.grows in omega (arith, lt, le))
    among n (inr lt) = lt

pub formed_checked : (w : Workunit) → IsWorkunit w → IsWorkunit (checked w)
formed_checked w = formed_by w (checked w) (keeps_checked IsInstance formed_stays w)

pub formed_concluded : (w : Workunit) → IsWorkunit w → IsWorkunit (concluded w)
formed_concluded w = formed_by w (concluded w) (keeps_concluded IsInstance formed_stays w)

formed_assimilated : (w : Workunit) (now : ℕ) → IsWorkunit w → IsWorkunit (assimilated w now)
unfolding assimilated
formed_assimilated w now h =
    cond_has IsWorkunit (is_ready_assimilate w.assimilate) (record w { assimilate = assimilate.Done; done_at = Some now }) w
    (record { parameters = h.parameters; instances = h.instances; within = h.within; canonical = h.canonical; done = λ e. refl; done_only = λ e. refl }) h

-- ---- the scheduler

-- one instance is changed, and the class
with_instance_formed : (w : Workunit) (class n : ℕ) (i : Instance) → IsInstance i → IsWorkunit w
    → IsWorkunit (record (with_instance_set w n i) { class = class })
with_instance_formed w class n i k h =
    let long = length-set w.instances n i in
    record {
      parameters = h.parameters;
      instances = All-set IsInstance w.instances n i k h.instances;
      within = (let le = h.within in omega arith);
      canonical = λ m e. (let lt = h.canonical m e in omega arith);
      done = h.done;
      done_only = h.done_only;
    }

formed_sent_to : (w : Workunit) (host : List ℕ) (moment : ℕ) (i : Instance) → IsInstance (sent_to w host moment i)
formed_sent_to w host moment i = record { sent_with_host = refl; due_with_host = refl; unsent = λ e. cc; in_progress = λ e. refl; success = λ e f. refl }

formed_sent : (w : Workunit) (n : ℕ) (host : List ℕ) (class : ℕ) (moment : ℕ) → IsWorkunit w → IsWorkunit (sent_in w n host class moment)
formed_sent w n host class moment h = by (slice_get w.instances n)
  where
    by : (o : Option Instance) → IsWorkunit (option_map_or (sent_as w n host class moment) o w)
    by (Some i) = with_instance_formed w class n (sent_to w host moment i) (formed_sent_to w host moment i) h
    by None = h

formed_reported_as : (moment : ℕ) (status : Status) (output : List ℕ) (i : Instance) → is_some i.host ≡ true → IsInstance i → IsInstance (reported_as moment status output i)
formed_reported_as moment status output i has h = record { sent_with_host = h.sent_with_host; due_with_host = h.due_with_host; unsent = λ e. cc; in_progress = λ e. has; success = λ e f. has }

-- a report that is taken is of an instance that was sent
was_sent : (host : List ℕ) (moment : ℕ) (i : Instance) → report_verdict_of host moment i ≡ report.Applied → is_some i.host ≡ true
was_sent host moment i applied = grind arith

-- where a report is applied, what holds with each instance of the number reported holds of what is reported
pub reported_has : (P : Workunit → Type 0) (w : Workunit) (n : ℕ) (host : List ℕ) (moment : ℕ) (status : Status) (output : List ℕ)
    → report_verdict_in w n host moment ≡ report.Applied
    → ((i : Instance) → slice_get w.instances n ≡ Some i → report_verdict_of host moment i ≡ report.Applied
    → P (with_instance_set w n (reported_as moment status output i)))
    → P (reported_in w n moment status output)
reported_has P w n host moment status output applied each = by (slice_get w.instances n) refl applied
  where
    by : (o : Option Instance) → slice_get w.instances n ≡ o → option_map_or (report_verdict_of host moment) o report.Unknown ≡ report.Applied
        → P (option_map_or (λ instance. with_instance_set w n (reported_as moment status output instance)) o w)
    by None e taken = absurd (cc)
    by (Some i) e taken = each i e taken

formed_reported : (w : Workunit) (n : ℕ) (host : List ℕ) (moment : ℕ) (status : Status) (output : List ℕ) → report_verdict_in w n host moment ≡ report.Applied → IsWorkunit w → IsWorkunit (reported_in w n moment status output)
formed_reported w n host moment status output applied h = reported_has IsWorkunit w n host moment status output applied (λ i e taken.
    let at = subst IsInstance (get_or_from_slice_get w.instances n i i e) (h.instances n i (slice_get_within w.instances n i e)) in
    with_instance_formed w w.class n (reported_as moment status output i) (formed_reported_as moment status output i (was_sent host moment i taken) at) h)

pub keeps_formed : (w : Workunit) → IsWorkunit w → KeepsFormed w
keeps_formed w h = record {
  transitioned = λ now. formed_by w (transitioned w now) (keeps_transitioned IsInstance formed_stays w now) h;
  validated = formed_by w (validated w) (keeps_validated IsInstance formed_stays w) h;
  assimilated = λ now. formed_assimilated w now h;
  emptied = formed_by w (emptied w) (keeps_emptied IsInstance formed_stays w) h;
  cancelled = formed_by w (cancelled w) (keeps_cancelled IsInstance formed_stays w) h;
  sent = λ n host class moment. formed_sent w n host class moment h;
  reported = λ n host moment status output applied. formed_reported w n host moment status output applied h;
}
