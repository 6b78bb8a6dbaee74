-- The validator decides by the consensus, and judges by what it chose.
use Rattle.std.proofs.Common.{◌≡◌, ℕ, Bool, true, false, cond, map, length, nat_lt, slice_get, Option, Some, None, option_map, refl, sym, ap, ◌∙◌, bytes_eq}
use Rattle.std.proofs.lemmas.Option.{slice_get-map}
use Rattle.wu_core.specs.declared.workunit.Instance.{Instance}
use Rattle.wu_core.specs.declared.workunit.Workunit.{Workunit}
use Rattle.wu_core.specs.declared.states.ValidateState.TheVariants as validate
use Rattle.wu_rules.specs.Counts.{consensus, viable}
use Rattle.wu_rules.specs.Instances.{closed, is_viable}
use Rattle.wu_rules.specs.Validation.{agreed_on, checked, concluded, decided, doubted, doubted_or_closed, is_deleted_at, is_to_validate, judged_after, judged_by, judged_late_by, left_open, output_at, validated, validated_by, verdict}
use Rattle.wu_rules_laws.specs.Laws.{DecidesBy, verdict_at}
use Rattle.wu_rules_laws.proofs.Changed.{cond_has}
use Rattle.wu_rules_laws.proofs.Checking.{checked_canonical, validated_is}
use Rattle.wu_rules_laws.proofs.Choosing.{left_open_keeps}

pub decides : (w : Workunit) → is_to_validate w ≡ true → w.canonical ≡ None → (concluded w).canonical ≡ consensus w
unfolding concluded
decides w e none =
    ap (λ b. (cond b (validated_by w w.canonical) w).canonical) e ∙ (ap (λ o. (validated_by w o).canonical) none ∙ by (consensus w))
  where
    by : (o : Option ℕ) → (decided w o).canonical ≡ o
    by None = left_open_keeps w ∙ none
    by (Some n) = refl

judges_by_chosen : (w : Workunit) (c n : ℕ) (i : Instance) → is_to_validate w ≡ true → w.canonical ≡ None → consensus w ≡ Some c
    → slice_get w.instances n ≡ Some i → is_viable i ≡ true
    → verdict_at (concluded w) n ≡ Some (verdict (bytes_eq i.output (output_at w.instances c)))
unfolding concluded
judges_by_chosen w c n i e none agreed here viable =
    let output = output_at w.instances c in
    let image : concluded w ≡ agreed_on w c = ap (λ b. cond b (validated_by w w.canonical) w) e ∙ (ap (validated_by w) none ∙ ap (decided w) agreed) in
    ap (λ (v : Workunit). option_map (λ (j : Instance). j.validate_state) (slice_get v.instances n)) image
    ∙ (ap (λ o. option_map (λ (j : Instance). j.validate_state) o) (slice_get-map (judged_by output) w.instances n ∙ ap (λ o. option_map (judged_by output) o) here)
    ∙ ap (λ b. Some (cond b (record i { validate_state = verdict (bytes_eq i.output output) }) (closed i)).validate_state) viable)

-- after the decision each instance is judged by the canonical output, or by that it is deleted
judged_at : (w : Workunit) (c n : ℕ) (i : Instance) (gone : Bool) → is_to_validate w ≡ true → w.canonical ≡ Some c → is_deleted_at w.instances c ≡ gone
    → slice_get w.instances n ≡ Some i
    → verdict_at (concluded w) n ≡ Some (judged_late_by gone (output_at w.instances c) i).validate_state
unfolding concluded
judged_at w c n i gone e some there here =
    let output = output_at w.instances c in
    let image : concluded w ≡ judged_after w c = ap (λ b. cond b (validated_by w w.canonical) w) e ∙ ap (validated_by w) some in
    let late : (record w { instances = map (judged_late_by gone output) w.instances }).instances ≡ (judged_after w c).instances = ap (λ g. map (judged_late_by g output) w.instances) (sym there) in
    ap (λ (v : Workunit). option_map (λ (j : Instance). j.validate_state) (slice_get v.instances n)) image
    ∙ (ap (λ zs. option_map (λ (j : Instance). j.validate_state) (slice_get zs n)) (sym late)
    ∙ ap (λ o. option_map (λ (j : Instance). j.validate_state) o) (slice_get-map (judged_late_by gone output) w.instances n ∙ ap (λ o. option_map (judged_late_by gone output) o) here))

-- what is left open is doubted
doubts : (w : Workunit) (n : ℕ) (i : Instance) → slice_get w.instances n ≡ Some i → is_viable i ≡ true → verdict_at (left_open w) n ≡ Some validate.Inconclusive
doubts w n i here viable_i =
    cond_has (λ (v : Workunit). verdict_at v n ≡ Some validate.Inconclusive) (nat_lt w.params.max_success_results (length (viable w))) _ _
    (at doubted_or_closed ∙ ap (λ b. Some (cond b (record i { validate_state = validate.Inconclusive }) (closed i)).validate_state) viable_i)
    (at doubted ∙ ap (λ b. Some (cond b (record i { validate_state = validate.Inconclusive }) i).validate_state) viable_i)
  where
    at : (f : Instance → Instance) → option_map (λ (j : Instance). j.validate_state) (slice_get (map f w.instances) n) ≡ Some (f i).validate_state
    at f = ap (λ o. option_map (λ (j : Instance). j.validate_state) o) (slice_get-map f w.instances n ∙ ap (λ o. option_map f o) here)

leaves_doubted : (w : Workunit) (n : ℕ) (i : Instance) → is_to_validate w ≡ true → w.canonical ≡ None → consensus w ≡ None
    → slice_get w.instances n ≡ Some i → is_viable i ≡ true → verdict_at (concluded w) n ≡ Some validate.Inconclusive
unfolding concluded
leaves_doubted w n i e none unagreed here viable_i =
    let image : concluded w ≡ left_open w = ap (λ b. cond b (validated_by w w.canonical) w) e ∙ (ap (validated_by w) none ∙ ap (decided w) unagreed) in
    ap (λ (v : Workunit). verdict_at v n) image ∙ doubts w n i here viable_i

-- what is left without empty outputs decides
pub decides_by : (w : Workunit) → DecidesBy w (checked w)
decides_by w = record {
  chosen = λ e none. ap (λ (v : Workunit). v.canonical) (validated_is w) ∙ decides (checked w) e (checked_canonical w ∙ none);
  judged = λ c n i e none agreed here viable. same n ∙ judges_by_chosen (checked w) c n i e (checked_canonical w ∙ none) agreed here viable;
  judged_late = λ c n i e some there here new. same n ∙ (judged_at (checked w) c n i false e (checked_canonical w ∙ some) there here
      ∙ ap (λ b. Some (cond b (record i { validate_state = verdict (bytes_eq i.output (output_at (checked w).instances c)) }) i).validate_state) new);
  too_late = λ c n i e some gone here new. same n ∙ (judged_at (checked w) c n i true e (checked_canonical w ∙ some) gone here
      ∙ ap (λ b. Some (cond b (record i { validate_state = validate.TooLate }) i).validate_state) new);
  doubted = λ n i e none unagreed here viable. same n ∙ leaves_doubted (checked w) n i e (checked_canonical w ∙ none) unagreed here viable;
}
  where
    same : (n : ℕ) → verdict_at (validated w) n ≡ verdict_at (concluded (checked w)) n
    same n = ap (λ (v : Workunit). verdict_at v n) (validated_is w)
