-- A walk over keys that remembers which it has seen.
use Rattle.std.proofs.Common.{◌≡◌, ◌∙◌, sym, ap, ℕ, ◌+◌, ◌<◌, Bool, true, false, cond, List, length, get_or, subst, below_more, arith, refl, inl, inr, ◌⊎◌}
use Rattle.std.specs.Cmp.{IsEquivalence}
use Rattle.std.proofs.lemmas.List.{get_or_default}
use Rattle.std.proofs.lemmas.Bool.{false≢true}
use Rattle.wu_audit.proofs.CountLemmas.{false_unless}
use Rattle.wu_audit.specs.Against.{IsFirstPairAgainst}

-- what was seen of the keys below a place: each of these and no other, and each once
pub record HasSeen {K : Type 0} (eq : K → K → Bool) (has : K → Bool) (keys : List K) (p : ℕ) : Type 0 where
  pub had : (q : K) (k : ℕ) → k < p → (d : K) → eq q (get_or keys k d) ≡ true → has q ≡ true
  pub only : (q : K) → has q ≡ true → (k : ℕ) × (k < p) × ((d : K) → eq q (get_or keys k d) ≡ true)
  pub apart : (i j : ℕ) (d : K) → i < j → j < p → eq (get_or keys i d) (get_or keys j d) ≡ false

true_in_cond : (b t : Bool) → t ≡ true → cond b true t ≡ true
true_in_cond true t e = refl
true_in_cond false t e = e

only_true_in_cond : (b t : Bool) → cond b true t ≡ true → (b ≡ true) ⊎ (t ≡ true)
only_true_in_cond true t e = inl refl
only_true_in_cond false t e = inr e

not_both : (b : Bool) → b ≡ true → b ≡ false → ⊥
not_both b t f = false≢true (sym f ∙ t)

module _ {K : Type 0} {eq : K → K → Bool} (laws : IsEquivalence eq) (has : K → Bool) (keys : List K) (p : ℕ) (x : K) (within : p < length keys) (is : x ≡ get_or keys p x) (seen : HasSeen eq has keys p) where
  is_at : (d : K) → x ≡ get_or keys p d
  is_at d = is ∙ get_or_default keys p x d within

  -- a key that was seen stands at an earlier place
  pub seen_again : has x ≡ true → IsFirstPairAgainst (λ one other. eq one other ≡ false) keys p
  seen_again again =
      let found = seen.only x again in
      record {
        within = within;
        before = seen.apart;
        against = (
          found.0,
          found.1,
          λ d apart.
              not_both (eq x (get_or keys found.0 d)) (found.2 d)
              (laws.symm x (get_or keys found.0 d) ∙ subst (λ y. eq (get_or keys found.0 d) y ≡ false) (sym (is_at d)) apart),
        );
      }

  -- one more key, which is new
  pub seen_more : (new : K → Bool) → ((q : K) → new q ≡ cond (eq x q) true (has q)) → has x ≡ false → HasSeen eq new keys (p + 1)
  seen_more new put fresh = record {
    had = λ q. below_more (λ k. (d : K) → eq q (get_or keys k d) ≡ true → new q ≡ true) p
        (λ k lt d e. put q ∙ true_in_cond (eq x q) (has q) (seen.had q k lt d e))
        (λ d e. put q ∙ ap (λ b. cond b true (has q)) (laws.symm x q ∙ subst (λ y. eq q y ≡ true) (sym (is_at d)) e));
    only = λ q e. elim (only_true_in_cond (eq x q) (has q) (sym (put q) ∙ e)) as (λ _. (k : ℕ) × (k < p + 1) × ((d : K) → eq q (get_or keys k d) ≡ true)) [
      | inl here ↦ (p, omega arith, λ d. subst (λ y. eq q y ≡ true) (is_at d) (laws.symm q x ∙ here))
      | inr earlier ↦ let found = seen.only q earlier in (found.0, omega (arith, found.1), found.2)
    ];
    apart = λ i j d less lt. below_more (λ j. (i : ℕ) (d : K) → i < j → eq (get_or keys i d) (get_or keys j d) ≡ false) p
        (λ j lt i d less. seen.apart i j d less lt)
        (λ i d less. subst (λ y. eq (get_or keys i d) y ≡ false) (is_at d)
        (false_unless (eq (get_or keys i d) x)
        (λ same. not_both (has x) (seen.had x i less d (laws.symm x (get_or keys i d) ∙ same)) fresh)))
        j lt i d less;
  }

-- nothing was seen of no keys
pub seen_none : {K : Type 0} (eq : K → K → Bool) (has : K → Bool) (keys : List K) → ((q : K) → has q ≡ false) → HasSeen eq has keys 0
seen_none eq has keys none = record {
  had = λ q k lt d e. absurd (omega (arith, lt));
  only = λ q e. absurd (not_both (has q) e (none q));
  apart = λ i j d less lt. absurd (omega (arith, lt));
}
