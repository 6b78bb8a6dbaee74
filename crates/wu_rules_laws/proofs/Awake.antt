-- When the transition changes a workunit.
use Rattle.std.proofs.Common.{◌≡◌, ◌≢◌, ℕ, ◌≤◌, nat_lt, nat_le, min, Bool, true, false, cond, ◌||◌, List, [], ◌∷◌, map, replicate, Option, Some, None, refl, sym, ap, subst, ◌∙◌, le-leb, arith}
use Rattle.std.proofs.lemmas.List.Folds.{list_any-append}
use Rattle.std.proofs.lemmas.Bool.Decides.{nat_tests}
use Rattle.std.specs.List.{list_any, list_all, filter_map, cons_option, fold, reduce}
use Rattle.std.specs.Option.{option_map_or, IsSomeAnd}
use Rattle.wu_core.specs.declared.workunit.Instance.{Instance}
use Rattle.wu_core.specs.declared.workunit.Workunit.{Workunit}
use Rattle.wu_core.specs.Workunit.{fresh}
use Rattle.wu_rules.specs.Instances.{is_overdue, is_done_assimilate, without_reply, timed_out, given_up}
use Rattle.wu_rules.specs.Counts.{is_clear}
use Rattle.wu_rules.specs.Transition.{timed, has_too_many_errors, has_too_many_total, added, extended, ended, settled, is_finished, with_output_readied, with_files_readied, readied, transitioned, unbound}
use Rattle.wu_rules.specs.Waking.{is_due, is_to_unbind, is_unsettled, has_files_to_ready, overdue_from, wake}
use Rattle.wu_rules.proofs.Lists.{any-map}
use Rattle.wu_rules_laws.proofs.Changed.{cond_has, or_left, or_right, or_false, or_from, cond_keeps, any_false-map, any_false-replicate, map-untouched, any-placed}
use Rattle.wu_rules_laws.proofs.Settled.{files_readied-once, files-untouched, not_lt-zero, settled-once, unbound-once, unbound-untouched, unsettled-readied, settled-untouched}
use Rattle.wu_rules_laws.proofs.Planned.{quiet-transitioned, extended-untouched}

-- ---- where nothing is due and nothing overdue, nothing changes

-- of six tests none passes
none_passes : (a b c d f g : Bool) → (a || b || c || d || f || g) ≡ false
    → (a ≡ false) × (b ≡ false) × (c ≡ false) × (d ≡ false) × (f ≡ false) × (g ≡ false)
none_passes a b c d f g e = grind arith

pub due-untouched : (w : Workunit) → is_due w ≡ false → unbound (readied (settled (extended w))) ≡ w
due-untouched w e =
    let parts = none_passes (has_too_many_errors w) (nat_lt 0 (added w)) (has_too_many_total w) (is_unsettled w) (has_files_to_ready w) (is_to_unbind w) e in
    ap (λ v. unbound (readied (settled v))) (extended-untouched w parts.0 (not_lt-zero (added w) parts.1) parts.2)
    ∙ (ap (λ v. unbound (readied v)) (settled-untouched w parts.3)
    ∙ (ap unbound (files-untouched w parts.4) ∙ unbound-untouched w parts.5))

abbrev pub has_overdue : Workunit → ℕ → Bool
has_overdue w now = list_any (is_overdue now) w.instances

timed-untouched : (w : Workunit) (now : ℕ) → has_overdue w now ≡ false → timed w now ≡ w
timed-untouched w now e =
    ap (λ zs. record w { instances = zs }) (map-untouched (is_overdue now) (timed_out now) (λ i h. ap (λ b. cond b (without_reply i) i) h) w.instances e)

pub transitioned-untouched : (w : Workunit) (now : ℕ) → is_due w ≡ false → has_overdue w now ≡ false → transitioned w now ≡ w
unfolding transitioned
transitioned-untouched w now e f = ap (λ v. unbound (readied (settled (extended v)))) (timed-untouched w now f) ∙ due-untouched w e

-- ---- after a transition nothing is due and nothing overdue

pub transitioned-not_due : (w : Workunit) (now : ℕ) → is_due (transitioned w now) ≡ false
unfolding transitioned
transitioned-not_due w now =
    let t = timed w now in
    let quiet = quiet-transitioned t in
    let none : nat_lt 0 (added (transitioned w now)) ≡ false = ap (λ n. nat_lt 0 n) quiet.added in
    let settled_now : is_unsettled (transitioned w now) ≡ false = unsettled-readied (settled (extended t)) ∙ settled-once (extended t) in
    let files : has_files_to_ready (transitioned w now) ≡ false = files_readied-once (settled (extended t)) in
    let bound : is_to_unbind (transitioned w now) ≡ false = unbound-once (readied (settled (extended t))) in
    rw (quiet.errors, none, quiet.total, settled_now, files, bound) refl

overdue_timed_out : (now : ℕ) (i : Instance) → is_overdue now (timed_out now i) ≡ false
overdue_timed_out now i = grind arith

overdue_given_up : (now : ℕ) (i : Instance) → is_overdue now (given_up i) ≡ is_overdue now i
overdue_given_up now i = grind arith

pub transitioned-not_overdue : (w : Workunit) (now : ℕ) → has_overdue (transitioned w now) now ≡ false
unfolding transitioned
transitioned-not_overdue w now = readied_same ∙ (settled_same ∙ extended_none)
  where
    e : Workunit
    e = extended (timed w now)

    s : Workunit
    s = settled (extended (timed w now))

    readied_same : has_overdue (readied s) now ≡ has_overdue s now
    readied_same = cond_keeps (λ v. has_overdue v now) (is_done_assimilate s.assimilate) (with_files_readied s) s (any-placed (is_overdue now) (is_overdue now) (with_output_readied s.canonical (list_all is_finished s.instances)) (λ n x. refl) 0 s.instances)

    settled_same : has_overdue (settled e) now ≡ has_overdue e now
    settled_same =
        cond_has (λ v. has_overdue v now ≡ has_overdue e now) (is_clear e.error_mask) e (ended e) refl
        (any-map (is_overdue now) (is_overdue now) given_up (overdue_given_up now) e.instances)

    extended_none : has_overdue e now ≡ false
    extended_none =
        list_any-append (is_overdue now) (map (timed_out now) w.instances) (replicate (added (timed w now)) fresh)
        ∙ or_from _ _ (any_false-map (is_overdue now) (timed_out now) (overdue_timed_out now) w.instances) (any_false-replicate (is_overdue now) fresh refl (added (timed w now)))

pub transitioned-once : (w : Workunit) (now : ℕ) → transitioned (transitioned w now) now ≡ transitioned w now
transitioned-once w now = transitioned-untouched (transitioned w now) now (transitioned-not_due w now) (transitioned-not_overdue w now)

-- ---- the moment of waking

abbrev is_by : ℕ → Option ℕ → Bool
is_by now o = option_map_or (λ moment. nat_le moment now) o false

min_by : (now a b : ℕ) → nat_le (min a b) now ≡ (nat_le a now || nat_le b now)
min_by now a b = grind (arith, nat_tests)

or_assoc : (a b c : Bool) → (a || b || c) ≡ (a || (b || c))
or_assoc a b c = grind arith

least_by : (now a : ℕ) (ms : List ℕ) → nat_le (fold min a ms) now ≡ (nat_le a now || list_any (λ m. nat_le m now) ms)
least_by now a [] = sym (or_false (nat_le a now))
least_by now a (m ∷ ms) =
    least_by now (min a m) ms
    ∙ (ap (λ b. b || list_any (λ k. nat_le k now) ms) (min_by now a m) ∙ or_assoc (nat_le a now) (nat_le m now) (list_any (λ k. nat_le k now) ms))

reduce_by : (now : ℕ) (ms : List ℕ) → is_by now (reduce min ms) ≡ list_any (λ m. nat_le m now) ms
reduce_by now [] = refl
reduce_by now (m ∷ ms) = least_by now m ms

overdue_by : (now : ℕ) (i : Instance) → is_by now (overdue_from i) ≡ is_overdue now i
overdue_by now i = grind (arith, nat_tests)

overdue_any : (now : ℕ) (xs : List Instance) → list_any (λ m. nat_le m now) (filter_map overdue_from xs) ≡ list_any (is_overdue now) xs
overdue_any now [] = refl
overdue_any now (x ∷ xs) = front (overdue_from x) ∙ (ap (λ b. b || list_any (λ m. nat_le m now) (filter_map overdue_from xs)) (overdue_by now x) ∙ ap (λ b. is_overdue now x || b) (overdue_any now xs))
  where
    front : (o : Option ℕ) → list_any (λ m. nat_le m now) (cons_option o (filter_map overdue_from xs)) ≡ (is_by now o || list_any (λ m. nat_le m now) (filter_map overdue_from xs))
    front None = refl
    front (Some m) = refl

pub wake_by : (w : Workunit) (now : ℕ) → is_by now (wake w) ≡ (is_due w || has_overdue w now)
unfolding wake
wake_by w now = by_case (is_due w)
  where
    by_case : (b : Bool) → is_by now (cond b (Some 0) (reduce min (filter_map overdue_from w.instances))) ≡ (b || has_overdue w now)
    by_case true = le-leb 0 now (omega arith)
    by_case false = reduce_by now (filter_map overdue_from w.instances) ∙ overdue_any now w.instances

from_by : (now : ℕ) (o : Option ℕ) → is_by now o ≡ true → IsSomeAnd o (λ moment. moment ≤ now)
from_by now o e = grind (arith, nat_tests)

to_by : (now : ℕ) (o : Option ℕ) → IsSomeAnd o (λ moment. moment ≤ now) → is_by now o ≡ true
to_by now o h = grind (arith, nat_tests)

pub woken-changed : (w : Workunit) (now : ℕ) → IsSomeAnd (wake w) (λ moment. moment ≤ now) → transitioned w now ≢ w
woken-changed w now h same =
    let due = subst (λ v. is_due v ≡ false) same (transitioned-not_due w now) in
    let overdue = subst (λ v. has_overdue v now ≡ false) same (transitioned-not_overdue w now) in
    let awake : true ≡ false = sym (to_by now (wake w) h) ∙ (wake_by w now ∙ or_from (is_due w) (has_overdue w now) due overdue) in
    cc

pub changed-woken : (w : Workunit) (now : ℕ) → transitioned w now ≢ w → IsSomeAnd (wake w) (λ moment. moment ≤ now)
changed-woken w now changed = by_case (is_by now (wake w)) refl
  where
    by_case : (b : Bool) → b ≡ is_by now (wake w) → IsSomeAnd (wake w) (λ moment. moment ≤ now)
    by_case true e = from_by now (wake w) (sym e)
    by_case false e =
        let none = sym (wake_by w now) ∙ sym e in
        absurd (changed (transitioned-untouched w now (or_left (is_due w) (has_overdue w now) none) (or_right (is_due w) (has_overdue w now) none)))
