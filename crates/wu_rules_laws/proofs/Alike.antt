-- The active instances of a workunit are of one class.
use Rattle.std.proofs.Common.{◌≡◌, ◌↔◌, ℕ, zero, suc, nat_lt, ◌+◌, Bool, true, false, cond, ◌&&◌, ◌||◌, List, [], ◌∷◌, length, slice_set, Option, Some, None, IfSome, is_none, bytes_eq, refl, sym, ap, subst, ◌∙◌, arith}
use Rattle.std.proofs.lemmas.List.Elements.{All-cons, All-from_recursion, All-head, All-nil, All-set, All-tail, All-weaker}
use Rattle.std.specs.List.{All, AllByRecursion, list_any, slice_get}
use Rattle.std.specs.Option.{IsSomeAnd, option_map_or}
use Rattle.wu_core.specs.Classes.{class_of}
use Rattle.wu_core.specs.Statuses.{outcome_of}
use Rattle.wu_core.specs.declared.workunit.Grant.{Grant}
use Rattle.wu_core.specs.declared.workunit.HostClass.{HostClass}
use Rattle.wu_core.specs.declared.workunit.Instance.{Instance}
use Rattle.wu_core.specs.declared.workunit.Workunit.{Workunit}
use Rattle.wu_core.specs.declared.states.Assimilate.TheVariants as assimilate
use Rattle.wu_core.specs.declared.states.Outcome.{Outcome}
use Rattle.wu_core.specs.declared.states.Outcome.TheVariants as outcome
use Rattle.wu_core.specs.declared.states.ServerState.TheVariants as server
use Rattle.wu_core.specs.declared.states.Status.{Status}
use Rattle.wu_core.specs.declared.states.Status.TheVariants as status
use Rattle.wu_rules.specs.Assimilation.{assimilated, emptied}
use Rattle.wu_rules.specs.Cancelling.{cancelled}
use Rattle.wu_rules.specs.Consistent.{IsOneClass, instance_host}
use Rattle.wu_rules.specs.Counts.{has_active, is_clear, viable}
use Rattle.wu_rules.specs.Instances.{is_active, is_done_assimilate, is_in_progress, is_open_verdict, is_ready_assimilate, is_success, is_success_outcome, is_viable}
use Rattle.wu_rules.specs.Reporting.{report_verdict_in, report_verdict_of, reported_as, reported_in}
use Rattle.wu_rules.specs.Sending.{send_verdict_in, send_verdict_of, sent_as, sent_in, sent_to}
use Rattle.wu_rules.specs.Transition.{ended, extended, readied, settled, timed, transitioned, with_files_readied}
use Rattle.wu_rules.specs.Validation.{checked, concluded, credited, granted_to, grants, grants_by, is_to_validate, judged_by, output_at, refused, validated, with_refused}
use Rattle.wu_rules.specs.declared.verdicts.ReportVerdict.TheVariants as report
use Rattle.wu_rules.specs.declared.verdicts.SendVerdict.TheVariants as send
use Rattle.wu_rules.proofs.Keeping.{Keeps, StaysWithInstances, keeps_cancelled, keeps_checked, keeps_emptied, keeps_transitioned, keeps_validated}
use Rattle.wu_rules_laws.specs.Consistent.{AgreesWithin, IdleIsOneClass, RulesKeepOneClass}
use Rattle.wu_rules_laws.proofs.Becoming.{all_become, becomes_judged_by, judged_is_viable, same_host}
use Rattle.wu_rules_laws.proofs.Changed.{cond_has, or_left, or_right}
use Rattle.wu_rules_laws.proofs.Checking.{checked_canonical, concluded_has, grants_are, validated_is}
use Rattle.wu_rules_laws.proofs.Choosing.{chooses, left_open_keeps}
use Rattle.wu_rules_laws.proofs.Granting.{granted_number, kept_all, names}
use Rattle.wu_rules_laws.proofs.Hosted.{set_here}
use Rattle.wu_rules_laws.proofs.Kept.{reported_has}
use Rattle.wu_rules_laws.proofs.Rewriting.{holds_at, was_alike, was_no_success}
use Rattle.wu_rules_laws.proofs.Spent.{and_left}
use Rattle.wu_rules_laws.proofs.Told.{may_be_reported}

-- ---- one instance

-- its host is of this class, where it is active
abbrev IsAlike : List HostClass → ℕ → Instance → Type 0
IsAlike classes class i = is_active i ≡ true → IfSome i.host (λ host. class_of classes host ≡ class)

viable_active : (i : Instance) → is_viable i ≡ true → is_active i ≡ true
viable_active i e = grind arith

-- what is over and no success is not active
ended_not_active : (i : Instance) (o : Outcome) → (o ≡ outcome.Success → ⊥) → is_active (record i { server_state = server.Over; outcome = o }) ≡ true → ⊥
ended_not_active i o other e = grind arith

-- what is refused is active only in progress
refused_active : (i : Instance) → is_active (refused i) ≡ true → is_active i ≡ true
refused_active i e = grind arith

-- it stays so by each rule
alike_stays : (classes : List HostClass) (class : ℕ) → StaysWithInstances (IsAlike classes class)
alike_stays classes class = record {
  new = λ e. tt;
  judged = λ i v viable h e. h (viable_active i viable);
  filed = λ i f h. h;
  deleted = λ i h. h;
  ended = λ i o other h e. absurd (ended_not_active i o other e);
  refused = λ i h e. h (refused_active i e);
}

-- ---- all of them

none_alike : (classes : List HostClass) (class : ℕ) (xs : List Instance) → list_any is_active xs ≡ false → All (IsAlike classes class) xs
none_alike classes class xs none = All-from_recursion (IsAlike classes class) xs (by xs none)
  where
    by : (ys : List Instance) → list_any is_active ys ≡ false → AllByRecursion (IsAlike classes class) ys
    by [] e = tt
    by (y ∷ ys) e = (
      (λ active. absurd (let both : true ≡ false = sym active ∙ or_left (is_active y) (list_any is_active ys) e in cc)),
      by ys (or_right (is_active y) (list_any is_active ys) e),
    )

-- so where none is active
pub idle_is_one_class : IdleIsOneClass
idle_is_one_class classes w idle = none_alike classes w.class w.instances idle

-- ---- the class of a workunit

class_transitioned : (w : Workunit) (now : ℕ) → (transitioned w now).class ≡ cond (has_active (transitioned w now)) w.class 0
unfolding transitioned
class_transitioned w now =
    let e = extended (timed w now) in
    let s = settled e in
    let same : s.class ≡ w.class = cond_has (λ v. v.class ≡ w.class) (is_clear e.error_mask) e (ended e) refl refl in
    ap (λ class. cond (has_active (readied s)) class 0)
    (cond_has (λ v. v.class ≡ w.class) (is_done_assimilate s.assimilate) (with_files_readied s) s same same)

class_concluded : (w : Workunit) → (concluded w).class ≡ w.class
class_concluded w =
    concluded_has (λ v gs. v.class ≡ w.class) w refl (λ c looked some. refl) (λ c looked some. refl) (λ n looked none agreed. refl)
    (λ looked none. cond_has (λ (v : Workunit). v.class ≡ w.class) (nat_lt w.params.max_success_results (length (viable w))) _ _ refl refl)

class_validated : (w : Workunit) → (validated w).class ≡ w.class
unfolding validated
class_validated w = class_concluded (checked w) ∙ cond_has (λ v. v.class ≡ w.class) (is_to_validate w) (with_refused (is_none w.canonical) w) w refl refl

-- ---- the hosts of a workunit that is decided

-- where a result is chosen, each instance has the host that it had
hosts_concluded : (v : Workunit) (n : ℕ) → v.canonical ≡ None → (concluded v).canonical ≡ Some n
    → instance_host (concluded v).instances n ≡ instance_host v.instances n
hosts_concluded v n undecided =
    concluded_has (λ u gs. u.canonical ≡ Some n → instance_host u.instances n ≡ instance_host v.instances n) v (λ is. refl)
    (λ c looked some is. cc) (λ c looked some is. cc)
    (λ m looked none agreed is. same_host (λ i. is_viable i && bytes_eq i.output (output_at v.instances m)) v.instances _
    (all_become _ (judged_by (output_at v.instances m)) (becomes_judged_by (output_at v.instances m)) v.instances) n)
    (λ looked none is. let same = left_open_keeps v in cc)

-- ---- the rules

module _ (classes : List HostClass) (w : Workunit) (alike : IsOneClass classes w) where
  -- a rule that keeps what is asked of each, and the class
  kept : (v : Workunit) → Keeps (IsAlike classes w.class) w v → v.class ≡ w.class → IsOneClass classes v
  kept v keeps same = subst (λ class. All (IsAlike classes class) v.instances) (sym same) (keeps.each alike)

  one_transitioned : (now : ℕ) → IsOneClass classes (transitioned w now)
  one_transitioned now = by (has_active (transitioned w now)) refl
    where
      by : (b : Bool) → has_active (transitioned w now) ≡ b → IsOneClass classes (transitioned w now)
      by true active =
          kept (transitioned w now) (keeps_transitioned (IsAlike classes w.class) (alike_stays classes w.class) w now)
          (class_transitioned w now ∙ ap (λ b. cond b w.class 0) active)
      by false idle = none_alike classes (transitioned w now).class (transitioned w now).instances idle

  -- where the workunit may be bound to this class, its active instances are of it
  before : (class : ℕ) → (has_active w ≡ true → w.class ≡ class) → All (IsAlike classes class) w.instances
  before class bound = by (has_active w) refl
    where
      by : (b : Bool) → has_active w ≡ b → All (IsAlike classes class) w.instances
      by true active = subst (λ c. All (IsAlike classes c) w.instances) (bound active) alike
      by false idle = none_alike classes class w.instances idle

  one_sent : (n : ℕ) (host : List ℕ) (moment : ℕ) → send_verdict_in w n host (class_of classes host) ≡ send.Applied
      → IsOneClass classes (sent_in w n host (class_of classes host) moment)
  one_sent n host moment applied = by (slice_get w.instances n) applied
    where
      by : (o : Option Instance) → option_map_or (send_verdict_of w host (class_of classes host)) o send.Unknown ≡ send.Applied
          → IsOneClass classes (option_map_or (sent_as w n host (class_of classes host) moment) o w)
      by None e = alike
      by (Some i) e =
          All-set (IsAlike classes (class_of classes host)) w.instances n (sent_to w host moment i) (λ active. refl)
          (before (class_of classes host) (was_alike w host (class_of classes host) i e))

  -- what is reported is this host's
  its : (n : ℕ) (host : List ℕ) (moment : ℕ) (i : Instance) → slice_get w.instances n ≡ Some i → report_verdict_in w n host moment ≡ report.Applied
      → i.host ≡ Some host
  its n host moment i here applied =
      (may_be_reported host moment i (sym (ap (λ o. option_map_or (report_verdict_of host moment) o report.Unknown) here) ∙ applied)).its

  -- a success is active, and what failed is not
  if_success : (host : List ℕ) (class moment : ℕ) (said : Status) (output : List ℕ) (i : Instance) → i.host ≡ Some host → (said ≡ status.Success → class_of classes host ≡ class)
      → IsAlike classes class (reported_as moment said output i)
  if_success host class moment status.Success output i hosted same = λ active. subst (λ o. IfSome o (λ h. class_of classes h ≡ class)) (sym hosted) (same refl)
  if_success host class moment said output i hosted same = λ active. absurd (cc)

  -- the class of the host of an active instance
  class_at : (class : ℕ) (host : List ℕ) (j : Instance) → IsAlike classes class j → is_active j ≡ true → j.host ≡ Some host → class_of classes host ≡ class
  class_at class host j so active hosted = subst (λ o. IfSome o (λ h. class_of classes h ≡ class)) hosted (so active)

  one_reported : (n : ℕ) (host : List ℕ) (moment : ℕ) (said : Status) (output : List ℕ) → report_verdict_in w n host moment ≡ report.Applied
      → IsOneClass classes (reported_in w n moment said output) ↔ (said ≡ status.Success → class_of classes host ≡ w.class)
  one_reported n host moment said output applied =
      reported_has (λ v. IsOneClass classes v ↔ (said ≡ status.Success → class_of classes host ≡ w.class)) w n host moment said output applied (λ i here e.
      let j = reported_as moment said output i in
      let hosted = its n host moment i here applied in (
        λ all is. class_at w.class host j (holds_at (IsAlike classes w.class) (slice_set w.instances n j) n j all (set_here w.instances n i j here))
            (ap (λ s. is_success_outcome (outcome_of s) && true) is) hosted,
        λ same. All-set (IsAlike classes w.class) w.instances n j (if_success host w.class moment said output i hosted same) alike,
      ))

  -- in progress it is active
  one_in_time : (n : ℕ) (host : List ℕ) (moment : ℕ) → report_verdict_in w n host moment ≡ report.Applied
      → IsSomeAnd (slice_get w.instances n) (λ i. is_in_progress i ≡ true) → class_of classes host ≡ w.class
  one_in_time n host moment applied = by (slice_get w.instances n) refl
    where
      by : (o : Option Instance) → slice_get w.instances n ≡ o → IsSomeAnd o (λ i. is_in_progress i ≡ true) → class_of classes host ≡ w.class
      by None here out = absurd out
      by (Some i) here out =
          class_at w.class host i (holds_at (IsAlike classes w.class) w.instances n i alike here) (ap (λ b. b || is_viable i) out) (its n host moment i here applied)

  pub rules_keep_one_class : RulesKeepOneClass classes w
  unfolding assimilated emptied cancelled
  rules_keep_one_class = record {
    transitioned = one_transitioned;
    validated = kept (validated w) (keeps_validated (IsAlike classes w.class) (alike_stays classes w.class) w) (class_validated w);
    assimilated = λ now. cond_has (IsOneClass classes) (is_ready_assimilate w.assimilate) (record w { assimilate = assimilate.Done; done_at = Some now }) w alike alike;
    emptied = kept (emptied w) (keeps_emptied (IsAlike classes w.class) (alike_stays classes w.class) w) refl;
    cancelled = kept (cancelled w) (keeps_cancelled (IsAlike classes w.class) (alike_stays classes w.class) w) refl;
    sent = one_sent;
    reported = one_reported;
    in_time = one_in_time;
  }

  -- ---- what agreed

  -- of this class
  abbrev IsOfClass : Grant → Type 0
  IsOfClass grant = class_of classes grant.host ≡ w.class

  -- what is granted by an output, where the active instances are of the class
  granted_alike : (v : Workunit) → All (IsAlike classes w.class) v.instances → (output : List ℕ) → AllByRecursion IsOfClass (grants_by v output)
  granted_alike v all output = kept_all IsOfClass (granted_to v output) 0 v.instances (λ k i grant here given.
      let parts = granted_number v output (0 + k) i grant given in
      let active = viable_active i (judged_is_viable (is_none v.canonical) i parts.0) in
      class_at w.class grant.host i (holds_at (IsAlike classes w.class) v.instances k i all here) active (names v (0 + k) i grant parts.2).host)

  -- all that is granted
  credited_alike : (v : Workunit) → All (IsAlike classes w.class) v.instances → All IsOfClass (credited v)
  credited_alike v all = All-from_recursion IsOfClass (credited v)
      (concluded_has (λ u gs. AllByRecursion IsOfClass gs) v tt (λ c looked some. tt)
      (λ c looked some. granted_alike v all (output_at v.instances c)) (λ n looked none agreed. granted_alike v all (output_at v.instances n))
      (λ looked none. tt))

  -- what is left without empty outputs
  left_alike : All (IsAlike classes w.class) (checked w).instances
  left_alike = (keeps_checked (IsAlike classes w.class) (alike_stays classes w.class) w).each alike

  granted_of_class : All IsOfClass (grants w)
  granted_of_class = subst (All IsOfClass) (sym (grants_are w)) (credited_alike (checked w) left_alike)

  -- the host of the result that is chosen
  chosen_of_class : (n : ℕ) (host : List ℕ) → w.canonical ≡ None → (validated w).canonical ≡ Some n → instance_host (validated w).instances n ≡ Some host
      → class_of classes host ≡ w.class
  chosen_of_class n host undecided is hosted =
      let it = (chooses w).chosen n undecided is in
      let same = hosts_concluded (checked w) n (checked_canonical w ∙ undecided) (sym (ap (λ (v : Workunit). v.canonical) (validated_is w)) ∙ is) in
      let at : instance_host (checked w).instances n ≡ Some host = sym same ∙ (sym (ap (λ (v : Workunit). instance_host v.instances n) (validated_is w)) ∙ hosted) in
      let its : it.chosen.host ≡ Some host = sym (ap (λ o. option_map_or (λ (i : Instance). i.host) o None) it.stands) ∙ at in
      class_at w.class host it.chosen (holds_at (IsAlike classes w.class) (checked w).instances n it.chosen left_alike it.stands) (viable_active it.chosen it.is_viable) its

  pub agrees_within : AgreesWithin classes w
  agrees_within = record { granted = granted_of_class; chosen = chosen_of_class }

-- ---- what no report takes back

-- its host is of this class, where it is a viable success
abbrev IsViablyAlike : List HostClass → ℕ → Instance → Type 0
IsViablyAlike classes class i = is_viable i ≡ true → IfSome i.host (λ host. class_of classes host ≡ class)

-- each viable success is of a host of the workunit's class
abbrev pub ViablyAlike : List HostClass → Workunit → Type 0
ViablyAlike classes w = All (IsViablyAlike classes w.class) w.instances

-- so it is where the active instances are
pub viably_alike : (classes : List HostClass) (w : Workunit) → IsOneClass classes w → ViablyAlike classes w
viably_alike classes w alike =
    All-weaker (IsAlike classes w.class) (IsViablyAlike classes w.class) (λ i so viable. so (viable_active i viable)) w.instances alike

-- what holds of each with one changed holds of each where it holds of that one as it was
all_unset : (P : Instance → Type 0) (xs : List Instance) (n : ℕ) (i j : Instance) → slice_get xs n ≡ Some i → P i → All P (slice_set xs n j) → All P xs
all_unset P [] n i j here it all = All-nil P
all_unset P (x ∷ xs) zero i j here it all = let same : x ≡ i = cc in All-cons P x xs (subst P (sym same) it) (All-tail P j xs all)
all_unset P (x ∷ xs) (suc n) i j here it all =
    All-cons P x xs (All-head P x (slice_set xs n j) all) (all_unset P xs n i j here it (All-tail P x (slice_set xs n j) all))

-- what may be reported is no success
awaited_no_success : (host : List ℕ) (moment : ℕ) (i : Instance) → report_verdict_of host moment i ≡ report.Applied → is_success i ≡ true → ⊥
awaited_no_success host moment i e success = let none = was_no_success host moment i e in cc

module _ (classes : List HostClass) (w : Workunit) (n : ℕ) (host : List ℕ) (moment : ℕ) (said : Status) (output : List ℕ)
    (applied : report_verdict_in w n host moment ≡ report.Applied) (after : ViablyAlike classes (reported_in w n moment said output)) where
  -- where the viable successes are alike after a report they were before
  pub alike_before : ViablyAlike classes w
  alike_before =
      reported_has (λ v. ViablyAlike classes v → ViablyAlike classes w) w n host moment said output applied (λ i here e all.
      all_unset (IsViablyAlike classes w.class) w.instances n i (reported_as moment said output i) here
      (λ viable. absurd (awaited_no_success host moment i e (and_left (is_success i) (is_open_verdict i.validate_state) viable))) all) after

  -- and a success that was told is of a host of the class
  pub told_of_class : said ≡ status.Success → class_of classes host ≡ w.class
  told_of_class is =
      reported_has (λ v. ViablyAlike classes v → class_of classes host ≡ w.class) w n host moment said output applied (λ i here e all.
      let j = reported_as moment said output i in
      let viable = ap (λ s. is_success_outcome (outcome_of s) && true) is in
      let its = (may_be_reported host moment i e).its in
      subst (λ o. IfSome o (λ h. class_of classes h ≡ w.class)) its
      (holds_at (IsViablyAlike classes w.class) (slice_set w.instances n j) n j all (set_here w.instances n i j here) viable)) after
