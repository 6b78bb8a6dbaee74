-- Each rule keeps a workunit consistent, and changes no final verdict.
use Rattle.std.specs.Prelude.{◌≡◌, ◌↔◌, ℕ, true, false, All, List, [], None, Some, option_to_list, slice_get, IsSomeAnd}
use Rattle.wu_core.specs.declared.workunit.Workunit.{Workunit}
use Rattle.wu_core.specs.declared.workunit.HostClass.{HostClass}
use Rattle.wu_core.specs.declared.states.Status.{Status}
use Rattle.wu_core.specs.declared.states.Status.TheVariants as status
use Rattle.wu_core.specs.Classes.{class_of}
use Rattle.wu_core.specs.Formed.{IsWorkunit}
use Rattle.wu_rules.specs.declared.verdicts.ReportVerdict.TheVariants as report
use Rattle.wu_rules.specs.declared.verdicts.SendVerdict.TheVariants as send
use Rattle.wu_rules.specs.Assimilation.{assimilated, archived, emptied}
use Rattle.wu_rules.specs.Cancelling.{cancelled}
use Rattle.wu_rules.specs.Counts.{has_active, is_undecided}
use Rattle.wu_rules.specs.Instances.{is_in_progress}
use Rattle.wu_rules.specs.Reporting.{report_verdict_in, reported_in}
use Rattle.wu_rules.specs.Sending.{send_verdict_in, sent_in}
use Rattle.wu_rules.specs.Transition.{transitioned}
use Rattle.wu_rules.specs.Validation.{validated, grants}
use Rattle.wu_rules.specs.Consistent.{IsConsistent, IsOneClass, KeepsVerdicts, Rewrites, instance_host}

-- Each rule makes a consistent workunit of this one: a cancel if it is undecided, a send and a report if they are
-- applied.
pub record RulesRewrite (w : Workunit) : Type 0 where
  pub transitioned : (now : ℕ) → Rewrites w (transitioned w now) [] []
  pub validated : Rewrites w (validated w) (grants w) []
  pub assimilated : (now : ℕ) → Rewrites w (assimilated w now) [] (option_to_list (archived w now))
  pub emptied : Rewrites w (emptied w) [] []
  pub cancelled : is_undecided w ≡ true → Rewrites w (cancelled w) [] []
  pub sent : (n : ℕ) (host : List ℕ) (class : ℕ) (moment : ℕ)
      → send_verdict_in w n host class ≡ send.Applied → Rewrites w (sent_in w n host class moment) [] []
  pub reported : (n : ℕ) (host : List ℕ) (moment : ℕ) (status : Status) (output : List ℕ)
      → report_verdict_in w n host moment ≡ report.Applied → Rewrites w (reported_in w n moment status output) [] []

-- Each rule makes a consistent workunit of a consistent one.
abbrev pub KeepsWorkunitsConsistent : Type 0
KeepsWorkunitsConsistent = (w : Workunit) → IsWorkunit w → IsConsistent w → RulesRewrite w

-- No rule changes a final verdict. An applied report does not either, if the workunit is consistent.
pub record RulesKeepVerdicts (w : Workunit) : Type 0 where
  pub transitioned : (now : ℕ) → KeepsVerdicts w (transitioned w now)
  pub validated : KeepsVerdicts w (validated w)
  pub assimilated : (now : ℕ) → KeepsVerdicts w (assimilated w now)
  pub emptied : KeepsVerdicts w (emptied w)
  pub cancelled : KeepsVerdicts w (cancelled w)
  pub sent : (n : ℕ) (host : List ℕ) (class : ℕ) (moment : ℕ) → KeepsVerdicts w (sent_in w n host class moment)
  pub reported : (n : ℕ) (host : List ℕ) (moment : ℕ) (status : Status) (output : List ℕ)
      → IsConsistent w → report_verdict_in w n host moment ≡ report.Applied → KeepsVerdicts w (reported_in w n moment status output)

abbrev pub KeepsAllVerdicts : Type 0
KeepsAllVerdicts = (w : Workunit) → RulesKeepVerdicts w

-- If active instances are of one class, each rule leaves it so while hosts keep their classes. A send does, given its
-- host's class. A report does exactly if it reports no success from a host of another class. A host whose instance is
-- in progress is of the workunit's class.
pub record RulesKeepOneClass (classes : List HostClass) (w : Workunit) : Type 0 where
  pub transitioned : (now : ℕ) → IsOneClass classes (transitioned w now)
  pub validated : IsOneClass classes (validated w)
  pub assimilated : (now : ℕ) → IsOneClass classes (assimilated w now)
  pub emptied : IsOneClass classes (emptied w)
  pub cancelled : IsOneClass classes (cancelled w)
  pub sent : (n : ℕ) (host : List ℕ) (moment : ℕ) → send_verdict_in w n host (class_of classes host) ≡ send.Applied
      → IsOneClass classes (sent_in w n host (class_of classes host) moment)
  pub reported : (n : ℕ) (host : List ℕ) (moment : ℕ) (said : Status) (output : List ℕ)
      → report_verdict_in w n host moment ≡ report.Applied
      → IsOneClass classes (reported_in w n moment said output) ↔ (said ≡ status.Success → class_of classes host ≡ w.class)
  pub in_time : (n : ℕ) (host : List ℕ) (moment : ℕ) → report_verdict_in w n host moment ≡ report.Applied
      → IsSomeAnd (slice_get w.instances n) (λ i. is_in_progress i ≡ true) → class_of classes host ≡ w.class

abbrev pub KeepsOneClass : Type 0
KeepsOneClass = (classes : List HostClass) (w : Workunit) → IsOneClass classes w → RulesKeepOneClass classes w

-- A workunit without an active instance is of one class, whatever classes hosts have.
abbrev pub IdleIsOneClass : Type 0
IdleIsOneClass =
    (classes : List HostClass) (w : Workunit) → has_active w ≡ false → IsOneClass classes w

-- If the active instances of a workunit are of one class, so is what agrees: each host that gets a grant, and the host
-- of the chosen result.
pub record AgreesWithin (classes : List HostClass) (w : Workunit) : Type 0 where
  pub granted : All (λ grant. class_of classes grant.host ≡ w.class) (grants w)
  pub chosen : (n : ℕ) (host : List ℕ) → w.canonical ≡ None → (validated w).canonical ≡ Some n
      → instance_host (validated w).instances n ≡ Some host → class_of classes host ≡ w.class

abbrev pub AgreesWithinOneClass : Type 0
AgreesWithinOneClass =
    (classes : List HostClass) (w : Workunit) → IsOneClass classes w → AgreesWithin classes w

-- A send is applied only to an undecided workunit.
abbrev pub SendsWhatIsUndecided : Type 0
SendsWhatIsUndecided =
    (w : Workunit) (n : ℕ) (host : List ℕ) (class : ℕ) → IsConsistent w → send_verdict_in w n host class ≡ send.Applied
    → is_undecided w ≡ true
