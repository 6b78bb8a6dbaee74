-- Values that rise in a total order, and their rows in any order.
use Rattle.wu_schema.proofs.Words.{IsAscending, IsPermutation, IsSorted, Less, List, Ordering, Row, [], arith, get_or, length, length-map, map, on_total, refl, ℕ, ap, ◌+◌, ◌<◌, ◌∙◌, ◌∷◌, ◌≡◌, column}
use Rattle.std.specs.Cmp.{IsTotalOrder}
use Rattle.std.specs.Cmp.Lexicographic.{slice_cmp}
use Rattle.std.specs.List.{AllPairs}
use Rattle.std.specs.List.Sorted.{IsStrictlySortedBy}
use Rattle.std.specs.Ordering.{is_lt, nat_cmp, on}
use Rattle.std.proofs.lemmas.Cmp.{nat_list_cmp_total}
use Rattle.std.proofs.lemmas.List.{get_or-map}
use Rattle.std.proofs.lemmas.Map.Keys.{sorted_from_all_adjacent}
use Rattle.sqlite_trees.proofs.ListLemmas.{ascending-get_or, ascending-map, ascending_weaker}
use Rattle.wu_core.proofs.HostLemmas.{Ascends}
use Rattle.wu_store.proofs.OneOrder.{one_order}
use Rattle.wu_store.proofs.SameWorld.{read_text}

-- ---- each is above the one before it, and above all before it

pub ascends : {X : Type 0} (R : X → X → Type 0) (xs : List X) → Ascends R xs → IsAscending R xs
ascends R [] up = tt
ascends R (x ∷ xs) up = (up.0, ascends R xs up.1)

strictly : {X : Type 0} (order : X → X → Ordering) (xs : List X) → IsStrictlySortedBy order xs → IsAscending (λ a b. order a b ≡ Less) xs
unfolding IsStrictlySortedBy
strictly order [] up = tt
strictly order (x ∷ xs) up = (up.0, strictly order xs up.1)

module _ {X : Type 0} (order : X → X → Ordering) where
  abbrev pub IsBelow : X → X → Type 0
  IsBelow a b = order a b ≡ Less

  abbrev pub RisesBy : List X → Type 0
  RisesBy xs = (k : ℕ) (d : X) → k + 1 < length xs → IsBelow (get_or xs k d) (get_or xs (k + 1) d)

  pub ascending : IsTotalOrder order → (xs : List X) → RisesBy xs → IsAscending IsBelow xs
  ascending total [] up = tt
  ascending total (x ∷ xs) up = strictly order (x ∷ xs) (sorted_from_all_adjacent total (x ∷ xs) x (λ k low. up k x low))

  pub in_pairs : (xs : List X) → IsAscending IsBelow xs → AllPairs IsBelow xs
  in_pairs xs up i j d less low = ascending-get_or IsBelow xs i j d up less low

  pub pairs_rise : (xs : List X) → AllPairs IsBelow xs → RisesBy xs
  pairs_rise xs pairs k d low = pairs k (k + 1) d (omega arith) low

-- ---- injections

pub one_list : {X : Type 0} (f : X → Row) → ((a b : X) → f a ≡ f b → a ≡ b) → (xs ys : List X) → map f xs ≡ map f ys → xs ≡ ys
one_list f inj [] [] same = refl
one_list f inj [] (y ∷ ys) same = absurd cc
one_list f inj (x ∷ xs) [] same = absurd cc
one_list f inj (x ∷ xs) (y ∷ ys) same =
    let first : f x ≡ f y = cc in
    let rest : map f xs ≡ map f ys = cc in
    (λ i. inj x y first i ∷ one_list f inj xs ys rest i)

-- ---- rows in the order of their values

module _ {X : Type 0} (order : X → X → Ordering) (cells : X → Row) (by_row : Row → Row → Ordering) (total : IsTotalOrder by_row) (as_rows : (a b : X) → by_row (cells a) (cells b) ≡ order a b) (inj : (a b : X) → cells a ≡ cells b → a ≡ b) where
  rows_sorted : (xs : List X) → IsSorted order xs → IsSorted by_row (map cells xs)
  rows_sorted [] up = λ k d low high. absurd (omega (arith, high))
  rows_sorted (x ∷ xs) up = λ k d low high.
      let long = length-map (x ∷ xs) cells in
      let one : get_or (map cells (x ∷ xs)) k d ≡ cells (get_or (x ∷ xs) k x) = get_or-map cells (x ∷ xs) k x d (omega (arith, high, long)) in
      let two : get_or (map cells (x ∷ xs)) (k + 1) d ≡ cells (get_or (x ∷ xs) (k + 1) x) = get_or-map cells (x ∷ xs) (k + 1) x d (omega (arith, high, long)) in
      (λ i. is_lt (by_row (two i) (one i))) ∙ ap is_lt (as_rows (get_or (x ∷ xs) (k + 1) x) (get_or (x ∷ xs) k x)) ∙ up k x low (omega (arith, high, long))

  -- sorted values that have the rows of rising ones are those
  pub sorted_are : (xs sorted : List X) → IsAscending (λ a b. by_row a b ≡ Less) (map cells xs) → IsSorted order sorted → IsPermutation (map cells xs) (map cells sorted) → sorted ≡ xs
  sorted_are xs sorted up after same = one_list cells inj sorted xs (one_order by_row total (map cells xs) (map cells sorted) up (rows_sorted sorted after) same)

-- values with a name in the first column
abbrev by_first : Row → Row → Ordering
by_first = on (λ (r : Row). read_text (column r 0)) (slice_cmp nat_cmp)

by_first_total : IsTotalOrder by_first
by_first_total = on_total (λ (r : Row). read_text (column r 0)) nat_list_cmp_total

module _ {X : Type 0} (name : X → List ℕ) (cells : X → Row) (named : (x : X) → read_text (column (cells x) 0) ≡ name x) (inj : (a b : X) → cells a ≡ cells b → a ≡ b) where
  abbrev in_names : X → X → Ordering
  in_names = on name (slice_cmp nat_cmp)

  as_named : (a b : X) → by_first (cells a) (cells b) ≡ in_names a b
  as_named a b i = slice_cmp nat_cmp (named a i) (named b i)

  pub named_are : (xs sorted : List X) → IsAscending (λ a b. in_names a b ≡ Less) xs → IsSorted in_names sorted → IsPermutation (map cells xs) (map cells sorted) → sorted ≡ xs
  named_are xs sorted up =
      let rows = ascending_weaker (λ a b. in_names a b ≡ Less) (λ a b. by_first (cells a) (cells b) ≡ Less) (λ a b low. as_named a b ∙ low) xs up in
      sorted_are in_names cells by_first by_first_total as_named inj xs sorted (ascending-map (λ a b. by_first a b ≡ Less) cells xs rows)
