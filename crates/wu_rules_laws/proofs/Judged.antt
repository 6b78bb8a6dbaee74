-- What the validator leaves alone, and what it leaves nothing of.
use Rattle.std.proofs.Common.{◌≡◌, ◌≢◌, ℕ, Bool, true, false, cond, ◌&&◌, List, map, length, nat_lt, Option, Some, None, is_none, refl, sym, ap, subst, ◌∙◌, arith}
use Rattle.std.specs.List.{list_any, slice_get}
use Rattle.std.specs.Option.{option_map}
use Rattle.std.proofs.lemmas.Option.{slice_get-map}
use Rattle.wu_core.specs.declared.workunit.Instance.{Instance}
use Rattle.wu_core.specs.declared.workunit.Workunit.{Workunit}
use Rattle.wu_core.specs.declared.states.Outcome.TheVariants as outcome
use Rattle.wu_rules.specs.Instances.{is_over, is_new, is_open_verdict}
use Rattle.wu_rules.specs.Counts.{viable, has_new_success, consensus}
use Rattle.wu_rules.specs.Validation.{checked, concluded, is_to_validate, is_judged_where, output_at, is_deleted_at, judged_by, doubted, doubted_or_closed, judged_late_by, decided, validated_by, validated, raised_target}
use Rattle.wu_rules_laws.proofs.Becoming.{verdict_at}
use Rattle.wu_rules_laws.proofs.Changed.{any_false-map, only_where}
use Rattle.wu_rules_laws.proofs.Checking.{becomes_checked, checked_in, concluded_unlooked, stands_checked, validated_is, validated_unlooked}

-- ---- how the validator changes instances

-- no new success is left and none is refused; what is not judged keeps its verdict, and stays if it is over
pub record Judges (undecided : Bool) (f : Instance → Instance) : Type 0 where
  pub none_new : (i : Instance) → is_new (f i) ≡ false
  pub none_refused : (i : Instance) → (f i).outcome ≡ outcome.ValidateError → i.outcome ≡ outcome.ValidateError
  pub verdict_stays : (i : Instance) → is_judged_where undecided i ≡ false → (f i).validate_state ≡ i.validate_state
  pub over_stays : (i : Instance) → is_over i ≡ true → is_judged_where undecided i ≡ false → f i ≡ i

judges-judged_by : (output : List ℕ) → Judges true (judged_by output)
judges-judged_by output = grind arith

judges-doubted : Judges true doubted
judges-doubted = grind arith

judges-doubted_or_closed : Judges true doubted_or_closed
judges-doubted_or_closed = grind arith

judges-judged_late_by : (is_gone : Bool) (output : List ℕ) → Judges false (judged_late_by is_gone output)
judges-judged_late_by is_gone output = grind arith

-- a final verdict is not judged
pub final_not_judged : (undecided : Bool) (i : Instance) → is_open_verdict i.validate_state ≡ false → is_judged_where undecided i ≡ false
final_not_judged undecided i e = grind arith

-- ---- what the validator makes of a workunit that it looks at

-- the instances are changed one by one
pub record JudgesAll (undecided : Bool) (old new : Workunit) : Type 0 where
  pub each : Instance → Instance
  pub instances : new.instances ≡ map each old.instances
  pub judges : Judges undecided each

by_limit : (w : Workunit) (b : Bool) → JudgesAll true w (cond b
    (record w { error_mask = record w.error_mask { too_many_success_results = true }; instances = map doubted_or_closed w.instances })
    (record w { params = record w.params { target_nresults = raised_target w.params (length (viable w)) }; instances = map doubted w.instances }))
by_limit w true = record { each = doubted_or_closed; instances = refl; judges = judges-doubted_or_closed }
by_limit w false = record { each = doubted; instances = refl; judges = judges-doubted }

judges-decided : (w : Workunit) (o : Option ℕ) → JudgesAll true w (decided w o)
judges-decided w (Some n) = record { each = judged_by (output_at w.instances n); instances = refl; judges = judges-judged_by (output_at w.instances n) }
judges-decided w None = by_limit w (nat_lt w.params.max_success_results (length (viable w)))

judges-by : (w : Workunit) (o : Option ℕ) → JudgesAll (is_none o) w (validated_by w o)
judges-by w (Some n) = record {
  each = judged_late_by (is_deleted_at w.instances n) (output_at w.instances n);
  instances = refl;
  judges = judges-judged_late_by (is_deleted_at w.instances n) (output_at w.instances n);
}
judges-by w None = judges-decided w (consensus w)

pub judges-all : (w : Workunit) → is_to_validate w ≡ true → JudgesAll (is_none w.canonical) w (concluded w)
unfolding concluded
judges-all w looked =
    subst (λ b. JudgesAll (is_none w.canonical) w (cond b (validated_by w w.canonical) w)) (sym looked) (judges-by w w.canonical)

-- no new success is left
pub none_new_left : (undecided : Bool) (old new : Workunit) → JudgesAll undecided old new → has_new_success new ≡ false
none_new_left undecided old new h =
    ap (λ zs. list_any is_new zs) h.instances ∙ any_false-map is_new h.each h.judges.none_new old.instances

-- ---- one instance of a workunit, by what the validator concludes

module _ (w : Workunit) (n : ℕ) (i : Instance) (here : slice_get w.instances n ≡ Some i) where
  -- the one in its place
  at : (h : JudgesAll (is_none w.canonical) w (concluded w)) → slice_get (concluded w).instances n ≡ Some (h.each i)
  at h = ap (λ zs. slice_get zs n) h.instances ∙ (slice_get-map h.each w.instances n ∙ ap (option_map h.each) here)

  -- what is over and is not judged stays
  pub over_at : is_over i ≡ true → is_judged_where (is_none w.canonical) i ≡ false → slice_get (concluded w).instances n ≡ Some i
  over_at over other = by_case (is_to_validate w) refl
    where
      by_case : (b : Bool) → is_to_validate w ≡ b → slice_get (concluded w).instances n ≡ Some i
      by_case true e = let h = judges-all w e in at h ∙ ap Some (h.judges.over_stays i over other)
      by_case false e = ap (λ (v : Workunit). slice_get v.instances n) (concluded_unlooked w e) ∙ here

  -- the verdict of what is not judged stays
  pub verdict_at_stays : is_judged_where (is_none w.canonical) i ≡ false → verdict_at (concluded w).instances n ≡ Some i.validate_state
  verdict_at_stays other = by_case (is_to_validate w) refl
    where
      by_case : (b : Bool) → is_to_validate w ≡ b → verdict_at (concluded w).instances n ≡ Some i.validate_state
      by_case true e =
          let h = judges-all w e in
          ap (λ o. option_map (λ (j : Instance). j.validate_state) o) (at h) ∙ ap Some (h.judges.verdict_stays i other)
      by_case false e = ap (λ (v : Workunit). verdict_at v.instances n) (concluded_unlooked w e) ∙ ap (λ o. option_map (λ (j : Instance). j.validate_state) o) here

  -- none is refused
  pub refused_before : (j : Instance) → slice_get (concluded w).instances n ≡ Some j → j.outcome ≡ outcome.ValidateError → i.outcome ≡ outcome.ValidateError
  refused_before j there e = by_case (is_to_validate w) refl
    where
      by_case : (b : Bool) → is_to_validate w ≡ b → i.outcome ≡ outcome.ValidateError
      by_case true f =
          let h = judges-all w f in
          let same : h.each i ≡ j = (let both = sym (at h) ∙ there in cc) in
          h.judges.none_refused i (ap (λ (k : Instance). k.outcome) same ∙ e)
      by_case false f =
          let same : i ≡ j = (let both = sym here ∙ (sym (ap (λ (v : Workunit). slice_get v.instances n) (concluded_unlooked w f)) ∙ there) in cc) in
          ap (λ (k : Instance). k.outcome) same ∙ e

wanted_new : (a b c : Bool) → (a && b && c) ≡ true → b ≡ true
wanted_new a b c e = grind arith

-- ---- where the validator looks

pub looked-changed : (w : Workunit) → is_to_validate w ≡ true → validated w ≢ w
looked-changed w looked same = by_case (is_to_validate (checked w)) refl
  where
    image : concluded (checked w) ≡ w
    image = sym (validated_is w) ∙ same

    by_case : (b : Bool) → is_to_validate (checked w) ≡ b → ⊥
    by_case true e =
        let left = judges-all (checked w) e in
        let none : has_new_success w ≡ false =
        ap has_new_success (sym image) ∙ none_new_left (is_none (checked w).canonical) (checked w) (concluded (checked w)) left in
        let some : has_new_success w ≡ true = wanted_new _ (has_new_success w) _ looked in
        cc
    by_case false e =
        let stays : checked w ≡ w = sym (concluded_unlooked (checked w) e) ∙ image in
        let both : true ≡ false = sym looked ∙ (sym (ap is_to_validate stays) ∙ e) in
        cc

pub changed-looked : (w : Workunit) → validated w ≢ w → is_to_validate w ≡ true
changed-looked w changed = only_where (is_to_validate w) (validated w) w (validated_unlooked w) changed

-- ---- a final verdict stays

pub finals_stay : (w : Workunit) (k : ℕ) (i : Instance) → slice_get w.instances k ≡ Some i → is_open_verdict i.validate_state ≡ false
    → verdict_at (validated w).instances k ≡ Some i.validate_state
finals_stay w k i here final =
    let same : (checked_in w i).validate_state ≡ i.validate_state = (becomes_checked w i).final final in
    let other = final_not_judged (is_none (checked w).canonical) (checked_in w i) (ap is_open_verdict same ∙ final) in
    ap (λ (v : Workunit). verdict_at v.instances k) (validated_is w)
    ∙ (verdict_at_stays (checked w) k (checked_in w i) (stands_checked w k i here) other ∙ ap Some same)
