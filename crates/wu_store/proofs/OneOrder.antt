-- A list that strictly rises is the one order that a sort may give.
use Rattle.wu_schema.proofs.Words.{IsAscending, IsPermutation, IsSorted, Less, List, Ordering, [], ap, arith, false, get_or, length, suc, zero, ℕ, ◌+◌, ◌<◌, ◌∙◌, ◌∷◌, ◌≡◌}
use Rattle.std.specs.Cmp.{IsTotalOrder}
use Rattle.std.specs.Ordering.{is_lt, ordering_reverse}
use Rattle.sqlite_keyed.proofs.SortLemmas.{sorted_unique}

module _ {X : Type 0} (cmp : X → X → Ordering) (total : IsTotalOrder cmp) where
  -- the sorted order of a list that strictly rises is the list
  pub one_order : (xs ys : List X) → IsAscending (λ a b. cmp a b ≡ Less) xs → IsSorted cmp ys → IsPermutation xs ys → ys ≡ xs
  one_order xs ys up sorted same = sorted_unique cmp total xs ys up same sorted

  never_falls : (ys : List X) → IsAscending (λ a b. cmp a b ≡ Less) ys → (k : ℕ) (d : X) → k + 1 < length ys → is_lt (cmp (get_or ys (k + 1) d) (get_or ys k d)) ≡ false
  never_falls [] up k d high = absurd (omega (arith, high))
  never_falls (y ∷ []) up k d high = absurd (omega (arith, high))
  never_falls (y ∷ z ∷ ys) up zero d high = ap is_lt (total.antisymm z y ∙ ap ordering_reverse up.0.0)
  never_falls (y ∷ z ∷ ys) up (suc k) d high = let e : suc k + 1 ≡ suc (k + 1) = omega arith in rw e (never_falls (z ∷ ys) up.1 k d (omega (arith, high)))

  -- two lists of the same elements that both strictly rise are one
  pub two_orders : (xs ys : List X) → IsAscending (λ a b. cmp a b ≡ Less) xs → IsAscending (λ a b. cmp a b ≡ Less) ys → IsPermutation xs ys → ys ≡ xs
  two_orders xs ys up_x up_y = one_order xs ys up_x (λ k d low high. never_falls ys up_y k d high)
