-- Lists of things that have numbers, and the tables that list them by these.
use Rattle.wu_schema.proofs.Words.{Bool, Equal, Greater, Int, IsShaped-put_row, Less, List, ListsAll, Ordering, Row, [], ap, arith, false, flat_map, if◌then◌else◌, int_cmp, map, nat_tests, number, pos, put_row, refl, true, value_cmp, value_cmp-Int, ℕ, ◌++◌, ◌∙◌, ◌∷◌, ◌≡◌}
use Rattle.std.specs.Ordering.{nat_cmp, match_ordering}
use Rattle.wu_store.specs.Queues.{at_place}

-- ---- where some of a list are changed, but not in what is told of them

module _ {X : Type 0} (picked : X → Bool) (change : X → X) where
  abbrev changed : X → X
  changed x = if picked x then change x else x

  told_same : {Y : Type 0} (tell : X → Y) (x : X) → (picked x ≡ true → tell (change x) ≡ tell x) → tell (changed x) ≡ tell x
  told_same tell x same = go (picked x) same
    where
      go : (b : Bool) → (b ≡ true → tell (change x) ≡ tell x) → tell (if b then change x else x) ≡ tell x
      go true same = same refl
      go false same = refl

  pub map_stays : {Y : Type 0} (tell : X → Y) → ((x : X) → picked x ≡ true → tell (change x) ≡ tell x) → (xs : List X) → map tell (map changed xs) ≡ map tell xs
  map_stays tell same [] = refl
  map_stays tell same (x ∷ xs) = λ i. told_same tell x (same x) i ∷ map_stays tell same xs i

  pub flat_map_stays : {Y : Type 0} (tell : X → List Y) → ((x : X) → picked x ≡ true → tell (change x) ≡ tell x) → (xs : List X) → flat_map tell (map changed xs) ≡ flat_map tell xs
  flat_map_stays tell same [] = refl
  flat_map_stays tell same (x ∷ xs) = λ i. told_same tell x (same x) i ++ flat_map_stays tell same xs i

-- ---- a row at its place in order of its key

pub numbers_compare : (m n : ℕ) → value_cmp (Int (pos m)) (Int (pos n)) ≡ nat_cmp m n
numbers_compare m n = value_cmp-Int (pos m) (pos n) ∙ tests
  where
    tests : int_cmp (pos m) (pos n) ≡ nat_cmp m n
    tests = grind (arith, nat_tests)

module _ {X : Type 0} (key : X → ℕ) (cells : X → Row) where
  -- as the table keeps it
  abbrev pub keyed : X → Row
  keyed x = number (key x) ∷ cells x

  pub put_at_place : (x : X) (xs : List X) → put_row (keyed x) (map keyed xs) ≡ map keyed (at_place key x xs)
  put_at_place x [] = refl
  put_at_place x (y ∷ ys) = ap (λ o. match_ordering o (keyed y ∷ put_row (keyed x) (map keyed ys)) (keyed x ∷ map keyed ys) (keyed x ∷ keyed y ∷ map keyed ys)) (numbers_compare (key y) (key x)) ∙ go (put_at_place x ys) (nat_cmp (key y) (key x))
    where
      go : put_row (keyed x) (map keyed ys) ≡ map keyed (at_place key x ys) → (o : Ordering)
          → match_ordering o (keyed y ∷ put_row (keyed x) (map keyed ys)) (keyed x ∷ map keyed ys) (keyed x ∷ keyed y ∷ map keyed ys) ≡ map keyed (match_ordering o (y ∷ at_place key x ys) (x ∷ ys) (x ∷ y ∷ ys))
      go again Less = ap (λ rs. keyed y ∷ rs) again
      go again Equal = refl
      go again Greater = refl

  pub lists_at_place : (x : X) (xs : List X) (rows : List Row) → ListsAll rows (map keyed xs) → ListsAll (put_row (keyed x) rows) (map keyed (at_place key x xs))
  lists_at_place x xs rows l = record { shaped = IsShaped-put_row (keyed x) rows refl l.shaped; same = ap (put_row (keyed x)) l.same ∙ put_at_place x xs }
