-- The workunits that a pass takes, found one after another.
use Rattle.wu_schema.proofs.Words.{Bool, Database, List, None, Some, Refines, Workunit, World, [], all_has, arith, cases_Bool, find, if◌then◌else◌, inl, inr, nat_lt, nat_tests, refl, slice_get, subst, sym, true, ℕ, ◌<◌, ◌==◌, ◌∷◌, ◌≡◌}
use Rattle.std.specs.Prelude.{All, IfSome, ◌^◌}
use Rattle.std.proofs.lemmas.List.Elements.{All-head, All-tail}
use Rattle.sqlite_rules.proofs.ListLemmas.{has_found}
use Rattle.wu_store.specs.Answers.{first_above, numbered}
use Rattle.wu_store.specs.Due.{AreEarly}
use Rattle.wu_store.specs.Loading.{LoadsAbove, LoadsEarly}
use Rattle.wu_core.specs.Storable.{IsStorable}
use Rattle.wu_store.proofs.PlacedLemmas.{Rises, world_rises}

-- ---- what is found can be read

found_has : {X : Type 0} (P : X → Type 0) (p : X → Bool) (xs : List X) → All P xs → IfSome (find p xs) P
found_has P p [] all = tt
found_has P p (x ∷ xs) all = elim (cases_Bool (p x)) [
  | inl is ↦ rw is (All-head P x xs all)
  | inr not ↦ rw not (found_has P p xs (All-tail P x xs all))
]

pub numbered_loads : (number : ℕ) (world : World) → number < 2 ^ 63 → AreEarly world → LoadsEarly number world
numbered_loads number world low (early, storable) = (early, low, found_has IsStorable (λ (w : Workunit). w.number == number) world.workunits storable)

pub above_loads : (number : ℕ) (world : World) → number < 2 ^ 63 → AreEarly world → LoadsAbove number world
above_loads number world low (early, storable) = (early, low, found_has IsStorable (λ (w : Workunit). nat_lt number w.number) world.workunits storable)

-- what is above a number has a higher one
pub higher : (number : ℕ) (world : World) (w : Workunit) → first_above number world ≡ Some w → number < w.number
higher number world w found = let it = has_found (λ (v : Workunit). nat_lt number v.number) world.workunits w found in grind (arith, nat_tests, it.1)

-- ---- the first workunit

zero_is_first : (ws : List Workunit) (w : Workunit) → Rises ws → find (λ (v : Workunit). v.number == 0) ws ≡ Some w → Some w ≡ slice_get ws 0
zero_is_first [] w up found = absurd (cc)
zero_is_first (v ∷ vs) w up found = elim (cases_Bool (v.number == 0)) [
  | inl on ↦ sym (subst (λ b. (if b then Some v else find (λ (u : Workunit). u.number == 0) vs) ≡ Some w) on found)
  | inr off ↦
      let later : find (λ (u : Workunit). u.number == 0) vs ≡ Some w = subst (λ b. (if b then Some v else find (λ (u : Workunit). u.number == 0) vs) ≡ Some w) off found in
      let it = has_found (λ (u : Workunit). u.number == 0) vs w later in
      let low : v.number < w.number = all_has (λ (u : Workunit). v.number < u.number) vs w up.0 it.0 in
      let zero : w.number ≡ 0 = grind (arith, nat_tests, it.1) in
      absurd (omega (arith, low, zero))
]

above_is_first : (ws : List Workunit) → find (λ (v : Workunit). v.number == 0) ws ≡ None → find (λ (v : Workunit). nat_lt 0 v.number) ws ≡ slice_get ws 0
above_is_first [] none = refl
above_is_first (v ∷ vs) none = elim (cases_Bool (v.number == 0)) [
  | inl on ↦ absurd (let e : Some v ≡ None = subst (λ b. (if b then Some v else find (λ (u : Workunit). u.number == 0) vs) ≡ None) on none in cc)
  | inr off ↦ let positive : nat_lt 0 v.number ≡ true = grind (arith, nat_tests, off) in rw positive refl
]

-- the workunit of 0 is the first one;
pub zero_first : (db : Database) (world : World) → Refines db world → (w : Workunit) → Some w ≡ numbered 0 world → Some w ≡ slice_get world.workunits 0
zero_first db world stands w found = zero_is_first world.workunits w (world_rises db world stands) (sym found)

-- without one, it is the first above 0
pub above_first : (world : World) → None ≡ numbered 0 world → first_above 0 world ≡ slice_get world.workunits 0
above_first world none = above_is_first world.workunits (sym none)

-- ---- the front of a list

pub headed : (ws : List Workunit) (w : Workunit) → Some w ≡ slice_get ws 0 → (more : List Workunit) × (ws ≡ w ∷ more)
headed [] w is = absurd cc
headed (v ∷ vs) w is = (vs, cc)

pub empty : (ws : List Workunit) → None ≡ slice_get ws 0 → ws ≡ []
empty [] is = refl
empty (v ∷ vs) is = absurd cc
