-- What has to happen happens: what is late is timed out, what has its quorum is decided, and what comes late is judged.
use Rattle.std.proofs.Common.{◌≡◌, ℕ, zero, suc, ◌≤◌, nat_lt, Bool, true, false, ◌&&◌, List, [], ◌∷◌, length, slice_get, Option, Some, None, is_none, IfSome, refl, sym, ap, subst, ◌∙◌, arith}
use Rattle.std.proofs.lemmas.Bool.Decides.{nat_tests}
use Rattle.std.specs.List.{list_any}
use Rattle.std.specs.Option.{option_map_or}
use Rattle.wu_core.specs.declared.workunit.Instance.{Instance}
use Rattle.wu_core.specs.declared.workunit.Workunit.{Workunit}
use Rattle.wu_core.specs.Parameters.{Parameters}
use Rattle.wu_core.specs.declared.states.ServerState.TheVariants as server
use Rattle.wu_rules.specs.Counts.{consensus, has_new_success, is_clear, is_undecided, viable}
use Rattle.wu_rules.specs.Instances.{is_in_progress_state, is_new, is_overdue}
use Rattle.wu_rules.specs.Transition.{transitioned}
use Rattle.wu_rules.specs.Validation.{checked, concluded, is_to_validate, validated}
use Rattle.wu_rules_laws.proofs.Awake.{transitioned-not_overdue}
use Rattle.wu_rules_laws.proofs.Changed.{or_left, or_right}
use Rattle.wu_rules_laws.proofs.Checking.{checked_canonical, checked_mask, checked_params, concluded_unlooked, validated_is}
use Rattle.wu_rules_laws.proofs.Deciding.{decides}
use Rattle.wu_rules_laws.proofs.Judged.{judges-all, none_new_left}

-- where none passes a test, the one at a place does not
pub fails_at : {A : Type 0} (p : A → Bool) (xs : List A) (n : ℕ) (x : A) → list_any p xs ≡ false → slice_get xs n ≡ Some x → p x ≡ false
fails_at p [] n x none e = cc
fails_at p (y ∷ ys) zero x none e = let first : p y ≡ false = or_left (p y) (list_any p ys) none in cc
fails_at p (y ∷ ys) (suc n) x none e = fails_at p ys n x (or_right (p y) (list_any p ys) none) e

-- ---- what is late is timed out

in_time : (now : ℕ) (o : Option ℕ) → option_map_or (λ deadline. nat_lt deadline now) o false ≡ false → IfSome o (λ deadline. now ≤ deadline)
in_time now o e = grind (arith, nat_tests)

pub times_out : (w : Workunit) (now n : ℕ) (i : Instance) → slice_get (transitioned w now).instances n ≡ Some i
    → i.server_state ≡ server.InProgress → IfSome i.deadline (λ deadline. now ≤ deadline)
times_out w now n i here running =
    let not_overdue : is_overdue now i ≡ false = fails_at (is_overdue now) (transitioned w now).instances n i (transitioned-not_overdue w now) here in
    in_time now i.deadline (ap (λ s. is_in_progress_state s && option_map_or (λ deadline. nat_lt deadline now) i.deadline false) (sym running) ∙ not_overdue)

-- ---- what has its quorum is decided

concludes_quorum : (w : Workunit) (c : ℕ) → is_undecided w ≡ true → has_new_success w ≡ true → w.params.min_quorum ≤ length (viable w) → consensus w ≡ Some c
    → (concluded w).canonical ≡ Some c
concludes_quorum w c undecided new enough agreed =
    let none : w.canonical ≡ None = grind arith in
    let looked : is_to_validate w ≡ true = grind (arith, nat_tests) in
    decides w looked none ∙ agreed

pub decides_quorum : (w : Workunit) (c : ℕ) → is_undecided w ≡ true → has_new_success (checked w) ≡ true → w.params.min_quorum ≤ length (viable (checked w))
    → consensus (checked w) ≡ Some c → (validated w).canonical ≡ Some c
decides_quorum w c undecided new enough agreed =
    let still : is_undecided (checked w) ≡ true =
    ap (λ o. is_none o && is_clear (checked w).error_mask) (checked_canonical w) ∙ (ap (λ m. is_none w.canonical && is_clear m) (checked_mask w) ∙ undecided) in
    let quorum : (checked w).params.min_quorum ≤ length (viable (checked w)) =
    subst (λ (p : Parameters). p.min_quorum ≤ length (viable (checked w))) (sym (checked_params w)) enough in
    ap (λ (v : Workunit). v.canonical) (validated_is w) ∙ concludes_quorum (checked w) c still new quorum agreed

-- ---- what comes late is judged

-- where the validator does not look after the decision, nothing is new
nothing_new : (w : Workunit) (c : ℕ) → w.canonical ≡ Some c → is_clear w.error_mask ≡ true → is_to_validate w ≡ false → has_new_success w ≡ false
nothing_new w c some clear e = grind arith

none_new_after : (w : Workunit) (c : ℕ) → w.canonical ≡ Some c → is_clear w.error_mask ≡ true → has_new_success (concluded w) ≡ false
none_new_after w c some clear = by_case (is_to_validate w) refl
  where
    by_case : (b : Bool) → is_to_validate w ≡ b → has_new_success (concluded w) ≡ false
    by_case true e = none_new_left (is_none w.canonical) w (concluded w) (judges-all w e)
    by_case false e = ap has_new_success (concluded_unlooked w e) ∙ nothing_new w c some clear e

pub judges_late : (w : Workunit) (c : ℕ) → w.canonical ≡ Some c → is_clear w.error_mask ≡ true
    → (n : ℕ) (i : Instance) → slice_get (validated w).instances n ≡ Some i → is_new i ≡ false
judges_late w c some clear n i here =
    let none = ap has_new_success (validated_is w) ∙ none_new_after (checked w) c (checked_canonical w ∙ some) (ap is_clear (checked_mask w) ∙ clear) in
    fails_at is_new (validated w).instances n i none here
