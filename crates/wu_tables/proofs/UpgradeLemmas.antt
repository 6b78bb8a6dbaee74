-- Names up to a place.
use Rattle.std.proofs.Common.{◌≡◌, ◌+◌, ◌<◌, ◌++◌, ℕ, zero, suc, List, [], ◌∷◌, IfNone, IfSome, MatchOption, None, Option, Some, arith, get_or, length, map, refl, slice_get, subst, take}
use Rattle.std.specs.Borrow.{Bor}
use Rattle.std.specs.List.{AllByRecursion}
use Rattle.sqlite.specs.Schema.{Schema}
use Rattle.wu_schema.specs.Made.{AreFree}
use Rattle.wu_schema.specs.Refines.{IsFree}
use Rattle.wu_tables.specs.Upgrades.{IsFirstTaken}

module _ (d : Bor (List ℕ)) where
  pub named_at : (names : List (Bor (List ℕ))) (i : ℕ) → i < length names → slice_get (map (λ name. name.now) names) i ≡ Some (get_or names i d).now
  named_at [] i low = absurd (omega (arith, low))
  named_at (x ∷ xs) zero low = refl
  named_at (x ∷ xs) (suc i) low = named_at xs i (omega (arith, low))

  names_next : (P : List ℕ → Type 0) (names : List (Bor (List ℕ))) (i : ℕ) → i < length names → AllByRecursion P (take i (map (λ name. name.now) names)) → P (get_or names i d).now → AllByRecursion P (take (suc i) (map (λ name. name.now) names))
  names_next P [] i low all p = absurd (omega (arith, low))
  names_next P (x ∷ xs) zero low all p = (p, tt)
  names_next P (x ∷ xs) (suc i) low all p = (all.0, names_next P xs i (omega (arith, low)) all.1 p)

  -- one name more has what those before it have
  pub names_more : (P : List ℕ → Type 0) (names : List (Bor (List ℕ))) (i : ℕ) → i < length names → AllByRecursion P (take i (map (λ name. name.now) names)) → P (get_or names i d).now → AllByRecursion P (take (i + 1) (map (λ name. name.now) names))
  names_more P names i low all p =
      let e : suc i ≡ i + 1 = omega arith in
      subst (λ n. AllByRecursion P (take n (map (λ name. name.now) names))) e (names_next P names i low all p)

-- ---- names after others

module _ (schema : Schema) where
  pub free_both : (front names : List (List ℕ)) → AreFree schema front → AreFree schema names → AreFree schema (front ++ names)
  free_both [] names free all = all
  free_both (x ∷ front) names free all = (free.0, free_both front names free.1 all)

  -- the first one taken, after names that are free
  pub first_after : (front names : List (List ℕ)) (name : List ℕ) → AreFree schema front → IsFirstTaken schema names name → IsFirstTaken schema (front ++ names) name
  first_after [] names name free first = first
  first_after (x ∷ front) names name free first =
      let more = first_after front names name free.1 first in
      record { place = suc more.place; there = more.there; taken = more.taken; before = (free.0, more.before) }

  taken_before : (names more : List (List ℕ)) (name : List ℕ) (place : ℕ) → slice_get names place ≡ Some name → ¬ IsFree schema name → AreFree schema (take place names) → IsFirstTaken schema (names ++ more) name
  taken_before [] more name place there taken before = absurd cc
  taken_before (x ∷ names) more name zero there taken before = record { place = 0; there = there; taken = taken; before = tt }
  taken_before (x ∷ names) more name (suc place) there taken before =
      let found = taken_before names more name place there taken before.1 in
      record { place = suc found.place; there = found.there; taken = found.taken; before = (before.0, found.before) }

  -- the same before more names
  pub first_before : (names more : List (List ℕ)) (name : List ℕ) → IsFirstTaken schema names name → IsFirstTaken schema (names ++ more) name
  first_before names more name first = taken_before names more name first.place first.there first.taken first.before

  -- what is found of names after names that are free
  module _ (front names : List (List ℕ)) (free : AreFree schema front) where
    abbrev Finds : Option (Bor (List ℕ)) → Type 0
    Finds found = MatchOption found (AreFree schema names) (λ name. IsFirstTaken schema names name.now)

    pub none_after : (found : Option (Bor (List ℕ))) → Finds found → IfNone found (AreFree schema (front ++ names))
    none_after None all = free_both front names free all
    none_after (Some name) first = tt

    pub some_after : (found : Option (Bor (List ℕ))) → Finds found → IfSome found (λ name. IsFirstTaken schema (front ++ names) name.now)
    some_after None all = tt
    some_after (Some name) first = first_after front names name.now free first
