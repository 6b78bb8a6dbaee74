-- A list of which each stands so to the next: each stands so to all that are later.
use Rattle.std.proofs.Common.{◌≡◌, sym, ℕ, ◌+◌, ◌-◌, ◌<◌, List, length, get_or, subst, below_more, arith, inl, inr}
use Rattle.std.proofs.lemmas.Bool.{cases_lt}
use Rattle.std.proofs.lemmas.List.{get_or_default}
use Rattle.wu_audit.specs.Against.{IsFirstPairAgainst}

-- what is so of two that were read is so of what stands at their places
pub at_places : {X : Type 0} (P : X → X → Type 0) (xs : List X) (a b : ℕ) (x y : X) → x ≡ get_or xs a x → y ≡ get_or xs b y → P x y → P (get_or xs a x) (get_or xs b y)
at_places P xs a b x y is_x is_y so = subst (λ one. P one (get_or xs b y)) is_x (subst (P x) is_y so)

module _ {X : Type 0} (R : X → X → Type 0) (xs : List X) where
  -- each below a place stands so to the later ones there
  abbrev pub RunsBelow : ℕ → Type 0
  RunsBelow p = (i j : ℕ) (d : X) → i < j → j < p → R (get_or xs i d) (get_or xs j d)

  -- of one there are no two
  pub runs_one : RunsBelow 1
  runs_one = λ i j d less lt. absurd (omega (arith, less, lt))

  -- one more, to which the one before it stands so
  pub runs_more : ((x y z : X) → R x y → R y z → R x z) → (p : ℕ) → 0 < p → RunsBelow p
      → ((d : X) → R (get_or xs (p - 1) d) (get_or xs p d)) → RunsBelow (p + 1)
  runs_more then p some runs step = λ i j d less lt.
      below_more (λ j. (i : ℕ) (d : X) → i < j → R (get_or xs i d) (get_or xs j d)) p
      (λ j lt i d less. runs i j d less lt)
      (λ i d less. elim (cases_lt i (p - 1)) as (λ _. R (get_or xs i d) (get_or xs p d)) [
        | inl below ↦ then _ _ _ (runs i (p - 1) d below (omega arith)) (step d)
        | inr last ↦ let e : i ≡ p - 1 = omega arith in subst (λ k. R (get_or xs k d) (get_or xs p d)) (sym e) (step d)
      ])
      j lt i d less

  -- what was read of two places, whatever stands for what is behind the end
  pub runs_here : (a b : ℕ) (x y u v : X) → a < length xs → b < length xs → R (get_or xs a x) (get_or xs b y) → R (get_or xs a u) (get_or xs b v)
  runs_here a b x y u v within_a within_b is =
      subst (λ one. R one (get_or xs b v)) (get_or_default xs a x u within_a)
      (subst (λ other. R (get_or xs a x) other) (get_or_default xs b y v within_b) is)

  -- the first place to which the one before it does not stand so
  pub runs_to : (p : ℕ) (x y : X) → 0 < p → p < length xs → RunsBelow p → ¬ R (get_or xs (p - 1) x) (get_or xs p y) → IsFirstPairAgainst R xs p
  runs_to p x y some within runs against = record {
    within = within;
    before = runs;
    against = (p - 1, omega arith, λ d is. against (runs_here (p - 1) p d d x y (omega arith) within is));
  }
