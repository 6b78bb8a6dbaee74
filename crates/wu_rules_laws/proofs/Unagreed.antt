-- What a validation makes of target and mask.
use Rattle.std.proofs.Common.{◌≡◌, ◌⊎◌, ℕ, ◌+◌, ◌<◌, ◌≤◌, nat_lt, Bool, true, false, cond, length, Some, refl, sym, ap, subst, ◌∙◌, arith}
use Rattle.std.proofs.lemmas.Bool.Decides.{nat_tests}
use Rattle.std.specs.Prelude.{◌↔◌}
use Rattle.wu_core.specs.declared.mask.ErrorMask.{ErrorMask}
use Rattle.wu_core.specs.declared.workunit.Workunit.{Workunit}
use Rattle.wu_core.specs.Parameters.{Parameters}
use Rattle.wu_rules.specs.Counts.{viable}
use Rattle.wu_rules.specs.Validation.{checked, concluded, decided, is_to_validate, left_open, validated, validated_by}
use Rattle.wu_rules_laws.specs.Laws.{AsksForMore, IsUnagreed}
use Rattle.wu_rules_laws.proofs.Changed.{cond_has}
use Rattle.wu_rules_laws.proofs.Checking.{checked_mask, checked_params, concluded_has, validated_is}
use Rattle.wu_rules_laws.proofs.Choosing.{left_open_keeps}

open_image : (w : Workunit) → IsUnagreed w → concluded w ≡ left_open w
unfolding concluded
open_image w it =
    ap (λ b. cond b (validated_by w w.canonical) w) it.looked_at ∙ (ap (validated_by w) it.undecided ∙ ap (decided w) it.no_consensus)

-- the validator looks only where no bit is set
bit_clear : (w : Workunit) → is_to_validate w ≡ true → w.error_mask.too_many_success_results ≡ false
bit_clear w e = grind (arith, nat_tests)

-- what is left open is given up exactly where there are too many successes
many_set : (w : Workunit) → w.error_mask.too_many_success_results ≡ false
    → ((left_open w).error_mask.too_many_success_results ≡ true) ↔ (w.params.max_success_results < length (viable w))
many_set w clear = grind (arith, nat_tests)

-- its target is raised where the successes reach it and are not too many
target_raised : (w : Workunit) → length (viable w) ≤ w.params.max_success_results → w.params.target_nresults ≤ length (viable w)
    → (left_open w).params.target_nresults ≡ length (viable w) + 1
target_raised w borne reached = grind (arith, nat_tests)

target_stays : (w : Workunit) → (w.params.max_success_results < length (viable w)) ⊎ (length (viable w) < w.params.target_nresults)
    → (left_open w).params.target_nresults ≡ w.params.target_nresults
target_stays w why = grind (arith, nat_tests)

module _ (w : Workunit) where
  gives_up_many : IsUnagreed w → ((concluded w).error_mask.too_many_success_results ≡ true) ↔ (w.params.max_success_results < length (viable w))
  gives_up_many it =
      subst (λ (v : Workunit). (v.error_mask.too_many_success_results ≡ true) ↔ (w.params.max_success_results < length (viable w))) (sym (open_image w it))
      (many_set w (bit_clear w it.looked_at))

  raises : IsUnagreed w → length (viable w) ≤ w.params.max_success_results → w.params.target_nresults ≤ length (viable w)
      → (concluded w).params.target_nresults ≡ length (viable w) + 1
  raises it borne reached = ap (λ (v : Workunit). v.params.target_nresults) (open_image w it) ∙ target_raised w borne reached

  stays_open : IsUnagreed w → (w.params.max_success_results < length (viable w)) ⊎ (length (viable w) < w.params.target_nresults)
      → (concluded w).params.target_nresults ≡ w.params.target_nresults
  stays_open it why = ap (λ (v : Workunit). v.params.target_nresults) (open_image w it) ∙ target_stays w why

-- what it changes of parameters and mask
record Changes (w v : Workunit) : Type 0 where
  other_params : v.params ≡ record w.params { target_nresults = v.params.target_nresults }
  other_bits : v.error_mask ≡ record w.error_mask { too_many_success_results = v.error_mask.too_many_success_results }
  decided : (n : ℕ) → v.canonical ≡ Some n → (v.params ≡ w.params) × (v.error_mask ≡ w.error_mask)

changes : (w : Workunit) → Changes w (concluded w)
changes w = record {
  other_params = concluded_has (λ v gs. v.params ≡ record w.params { target_nresults = v.params.target_nresults }) w
      refl (λ c looked some. refl) (λ c looked some. refl) (λ n looked none agreed. refl)
      (λ looked none. cond_has (λ (v : Workunit). v.params ≡ record w.params { target_nresults = v.params.target_nresults }) many _ _ refl refl);
  other_bits = concluded_has (λ v gs. v.error_mask ≡ record w.error_mask { too_many_success_results = v.error_mask.too_many_success_results }) w
      refl (λ c looked some. refl) (λ c looked some. refl) (λ n looked none agreed. refl)
      (λ looked none. cond_has (λ (v : Workunit). v.error_mask ≡ record w.error_mask { too_many_success_results = v.error_mask.too_many_success_results }) many _ _ refl refl);
  decided = concluded_has (λ v gs. (n : ℕ) → v.canonical ≡ Some n → (v.params ≡ w.params) × (v.error_mask ≡ w.error_mask)) w
      (λ n is. (refl, refl)) (λ c looked some n is. (refl, refl)) (λ c looked some n is. (refl, refl))
      (λ m looked none agreed n is. (refl, refl)) (λ looked none n is. absurd (let same = left_open_keeps w in cc));
}
  where
    many : Bool
    many = nat_lt w.params.max_success_results (length (viable w))

-- of what is left without empty outputs
module _ (w : Workunit) where
  -- its bit is set exactly where these are too many
  abbrev SetWhereMany : Workunit → Parameters → Type 0
  SetWhereMany v p = (v.error_mask.too_many_success_results ≡ true) ↔ (p.max_success_results < length (viable (checked w)))

  gives_up : IsUnagreed (checked w) → SetWhereMany (validated w) w.params
  gives_up it =
      subst (λ (v : Workunit). SetWhereMany v w.params) (sym (validated_is w))
      (subst (λ (p : Parameters). SetWhereMany (concluded (checked w)) p) (checked_params w) (gives_up_many (checked w) it))

  raised : IsUnagreed (checked w) → length (viable (checked w)) ≤ w.params.max_success_results → w.params.target_nresults ≤ length (viable (checked w))
      → (validated w).params.target_nresults ≡ length (viable (checked w)) + 1
  raised it borne reached =
      ap (λ (v : Workunit). v.params.target_nresults) (validated_is w)
      ∙ raises (checked w) it
      (subst (λ (p : Parameters). length (viable (checked w)) ≤ p.max_success_results) (sym (checked_params w)) borne)
      (subst (λ (p : Parameters). p.target_nresults ≤ length (viable (checked w))) (sym (checked_params w)) reached)

  -- these are too many, or too few for the target
  abbrev ManyOrFew : Parameters → Type 0
  ManyOrFew p = (p.max_success_results < length (viable (checked w))) ⊎ (length (viable (checked w)) < p.target_nresults)

  not_raised : IsUnagreed (checked w) → ManyOrFew w.params → (validated w).params.target_nresults ≡ w.params.target_nresults
  not_raised it why =
      ap (λ (v : Workunit). v.params.target_nresults) (validated_is w)
      ∙ (stays_open (checked w) it (subst ManyOrFew (sym (checked_params w)) why)
      ∙ ap (λ (p : Parameters). p.target_nresults) (checked_params w))

  changes_by : Changes w (validated w)
  changes_by =
      let by = changes (checked w) in
      let made : Changes w (concluded (checked w)) = record {
        other_params = by.other_params
            ∙ ap (λ (p : Parameters). record p { target_nresults = (concluded (checked w)).params.target_nresults }) (checked_params w);
        other_bits = by.other_bits
            ∙ ap (λ (m : ErrorMask). record m { too_many_success_results = (concluded (checked w)).error_mask.too_many_success_results }) (checked_mask w);
        decided = λ n is. (let both = by.decided n is in (both.0 ∙ checked_params w, both.1 ∙ checked_mask w));
      } in
      subst (λ (v : Workunit). Changes w v) (sym (validated_is w)) made

  pub asks_for_more : AsksForMore w (checked w)
  asks_for_more = record {
    given_up = gives_up;
    raised = raised;
    not_raised = not_raised;
    other_params = changes_by.other_params;
    other_bits = changes_by.other_bits;
    decided = changes_by.decided;
  }
