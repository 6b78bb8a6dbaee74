-- What becomes of empty outputs: they are refused, and no such output is chosen, made VALID or granted.
use Rattle.std.proofs.Common.{◌≡◌, ◌≢◌, ℕ, Bool, true, false, ◌&&◌, List, [], ◌∷◌, IfSome, Option, Some, None, option_map, is_none, refl, sym, ap, ◌∙◌, arith}
use Rattle.std.proofs.lemmas.List.Elements.{All-weaker}
use Rattle.std.specs.List.{slice_get}
use Rattle.wu_core.specs.declared.workunit.Grant.{Grant}
use Rattle.wu_core.specs.declared.workunit.Instance.{Instance}
use Rattle.wu_core.specs.declared.workunit.Workunit.{Workunit}
use Rattle.wu_core.specs.declared.states.Outcome.TheVariants as outcome
use Rattle.wu_core.specs.declared.states.ValidateState.{ValidateState}
use Rattle.wu_core.specs.declared.states.ValidateState.TheVariants as validate
use Rattle.wu_rules.specs.Instances.{is_open_verdict, is_over, is_viable}
use Rattle.wu_rules.specs.Validation.{checked, grants, is_empty, is_judged, is_judged_where, is_to_validate, refused, validated}
use Rattle.wu_rules.proofs.Refusing.{refused_not_judged}
use Rattle.wu_rules_laws.specs.Laws.{IsValidateError, IsRightGrantIn, RefusesEmpty, verdict_at}
use Rattle.wu_rules_laws.proofs.Changed.{and_false}
use Rattle.wu_rules_laws.proofs.Checking.{checked_canonical, checked_in, concluded_unlooked, kept_in, refused_in, stands_checked, validated_is, validated_unlooked}
use Rattle.wu_rules_laws.proofs.Choosing.{chooses}
use Rattle.wu_rules_laws.proofs.Granting.{grants_right}
use Rattle.wu_rules_laws.proofs.Judged.{over_at, refused_before, verdict_at_stays}
use Rattle.wu_rules_laws.proofs.Spent.{and_from}

-- what is judged is over
judged_over : (undecided : Bool) (i : Instance) → is_judged_where undecided i ≡ true → is_over i ≡ true
judged_over undecided i e = grind arith

-- an output that is there is not empty
has_output : (output : List ℕ) → output ≢ [] → is_empty output ≡ false
has_output [] there = absurd (there refl)
has_output (byte ∷ bytes) there = refl

-- an open verdict is not VALID
open_verdict : (v : ValidateState) → is_open_verdict v ≡ true → Some v ≢ Some validate.Valid
open_verdict v opened e = grind arith

-- the verdict of an instance that may be there
abbrev verdict_in : Option Instance → Option ValidateState
verdict_in o = option_map (λ j. j.validate_state) o

-- the instance that may be there is refused where this one was
abbrev RefusedOnly : Instance → Option Instance → Type 0
RefusedOnly i o = IfSome o (λ j. j.outcome ≡ outcome.ValidateError → i.outcome ≡ outcome.ValidateError)

module _ (w : Workunit) where
  -- what is refused is judged no more
  refused_then : (i : Instance) → is_judged_where (is_none (checked w).canonical) (refused i) ≡ false
  refused_then i = refused_not_judged (is_none (checked w).canonical) i

  refuses : (n : ℕ) (i : Instance) → is_to_validate w ≡ true → slice_get w.instances n ≡ Some i → is_judged w i ≡ true → i.output ≡ []
      → IsValidateError i (slice_get (validated w).instances n)
  refuses n i looked here judged none =
      let empty : is_empty i.output ≡ true = ap is_empty none in
      let is : checked_in w i ≡ refused i = refused_in w i looked (and_from (is_judged w i) (is_empty i.output) judged empty) in
      let stands : slice_get (checked w).instances n ≡ Some (refused i) = stands_checked w n i here ∙ ap Some is in
      ap (λ (v : Workunit). slice_get v.instances n) (validated_is w)
      ∙ over_at (checked w) n (refused i) stands (judged_over (is_none w.canonical) i judged) (refused_then i)

  -- what is empty is not viable among what is left
  left_undecided : (i : Instance) → is_to_validate w ≡ true → w.canonical ≡ None → i.output ≡ [] → is_viable (checked_in w i) ≡ false
  left_undecided i looked undecided none = grind arith

  not_chosen : (n : ℕ) (i : Instance) → w.canonical ≡ None → (validated w).canonical ≡ Some n
      → slice_get w.instances n ≡ Some i → i.output ≢ []
  not_chosen n i undecided chosen here none = by_case (is_to_validate w) refl
    where
      by_case : (b : Bool) → is_to_validate w ≡ b → ⊥
      by_case false e =
          let both : None ≡ Some n = sym undecided ∙ (sym (ap (λ (v : Workunit). v.canonical) (validated_unlooked w e)) ∙ chosen) in
          cc
      by_case true e =
          let choice = (chooses w).chosen n undecided chosen in
          let same : Some (checked_in w i) ≡ Some choice.chosen = sym (stands_checked w n i here) ∙ choice.stands in
          let own : checked_in w i ≡ choice.chosen = cc in
          let both : false ≡ true = sym (left_undecided i e undecided none) ∙ (ap is_viable own ∙ choice.is_viable) in
          cc

  not_valid : (n : ℕ) (i : Instance) → slice_get w.instances n ≡ Some i → is_open_verdict i.validate_state ≡ true
      → verdict_at (validated w) n ≡ Some validate.Valid → i.output ≢ []
  not_valid n i here opened valid none = by_case (is_to_validate w) (is_judged w i) refl refl
    where
      by_case : (b c : Bool) → is_to_validate w ≡ b → is_judged w i ≡ c → ⊥
      by_case true true e f =
          let is : Some validate.Invalid ≡ Some validate.Valid = sym (ap verdict_in (refuses n i e here f none)) ∙ valid in
          cc
      by_case true false e f =
          let kept : checked_in w i ≡ i = kept_in w i (ap (λ b. b && is_empty i.output) f) in
          let stands : slice_get (checked w).instances n ≡ Some i = stands_checked w n i here ∙ ap Some kept in
          let other : is_judged_where (is_none (checked w).canonical) i ≡ false = ap (λ o. is_judged_where (is_none o) i) (checked_canonical w) ∙ f in
          let stays = ap (λ (v : Workunit). verdict_at v n) (validated_is w) ∙ verdict_at_stays (checked w) n i stands other in
          open_verdict i.validate_state opened (sym stays ∙ valid)
      by_case false c e f =
          let stays = ap (λ (v : Workunit). verdict_at v n) (validated_unlooked w e) ∙ ap verdict_in here in
          open_verdict i.validate_state opened (sym stays ∙ valid)

  no_other : (n : ℕ) (i : Instance) → slice_get w.instances n ≡ Some i → i.output ≢ [] → RefusedOnly i (slice_get (validated w).instances n)
  no_other n i here there = by_case (slice_get (validated w).instances n) refl
    where
      stands : slice_get (checked w).instances n ≡ Some i
      stands = stands_checked w n i here ∙ ap Some (kept_in w i (and_false (is_judged w i) (is_empty i.output) (has_output i.output there)))

      by_case : (o : Option Instance) → slice_get (validated w).instances n ≡ o → RefusedOnly i o
      by_case None e = tt
      by_case (Some j) e = refused_before (checked w) n i stands j (sym (ap (λ (v : Workunit). slice_get v.instances n) (validated_is w)) ∙ e)

  not_granted : (g : Grant) → IsRightGrantIn w (validated w) g → (i : Instance) → slice_get w.instances g.n ≡ Some i → i.output ≢ []
  not_granted g right i here =
      let same : Some right.instance ≡ Some i = sym right.stands ∙ here in
      let own : right.instance ≡ i = cc in
      not_valid g.n i here (sym (ap (λ (j : Instance). is_open_verdict j.validate_state) own) ∙ right.open_before) right.valid_after

  pub refuses_empty : RefusesEmpty w
  refuses_empty = record {
    refused = refuses;
    not_chosen = not_chosen;
    not_valid = not_valid;
    not_granted = All-weaker (IsRightGrantIn w (validated w)) (λ g. (i : Instance) → slice_get w.instances g.n ≡ Some i → i.output ≢ [])
        not_granted (grants w) (grants_right w);
    others = no_other;
    rest = λ e. validated_is w ∙ concluded_unlooked (checked w) e;
  }
