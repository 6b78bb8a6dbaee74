-- To take the first workunit above the last one, again and again, goes through all of them in order.
use Rattle.wu_schema.proofs.Words.{AllByRecursion, Bool, Database, List, None, Some, Refines, Workunit, World, [], all_has, ap, arith, cases_Bool, false, filter, find, if◌then◌else◌, inl, inr, nat_lt, nat_tests, refl, subst, sym, true, ℕ, ◌++◌, ◌+◌, ◌<◌, ◌∙◌, ◌∷◌, ◌≡◌}
use Rattle.std.specs.Prelude.{All, slice_get}
use Rattle.std.proofs.lemmas.List.Elements.{recursion_from_All}
use Rattle.sqlite_rules.proofs.ListLemmas.{has_found}
use Rattle.wu_store.specs.Answers.{all_above, first_above}
use Rattle.wu_store.proofs.PlacedLemmas.{Rises, world_rises}

abbrev above : ℕ → Workunit → Bool
above n w = nat_lt n w.number

is_above : (m n : ℕ) → m < n → nat_lt m n ≡ true
is_above m n low = grind (arith, nat_tests, low)

not_above : (m n : ℕ) → n < m + 1 → nat_lt m n ≡ false
not_above m n high = grind (arith, nat_tests, high)

-- all are above what is below the first
all_kept : (n : ℕ) (ws : List Workunit) → AllByRecursion (λ (w : Workunit). n < w.number) ws → filter (above n) ws ≡ ws
all_kept n [] up = refl
all_kept n (w ∷ ws) up = rw (is_above n w.number up.0) (ap (λ l. w ∷ l) (all_kept n ws up.1))

later_too : (m n : ℕ) (ws : List Workunit) → m < n → AllByRecursion (λ (w : Workunit). n < w.number) ws → AllByRecursion (λ (w : Workunit). m < w.number) ws
later_too m n [] low up = tt
later_too m n (w ∷ ws) low up = (omega (arith, low, up.0), later_too m n ws low up.1)

step : (n : ℕ) (ws : List Workunit) (w : Workunit) → Rises ws → find (above n) ws ≡ Some w → filter (above n) ws ≡ w ∷ filter (above w.number) ws
step n [] w up found = absurd (cc)
step n (v ∷ vs) w up found = elim (cases_Bool (nat_lt n v.number)) [
  | inl on ↦
      let same : v ≡ w = let e : Some v ≡ Some w = subst (λ b. (if b then Some v else find (above n) vs) ≡ Some w) on found in cc in
      let low : n < v.number = grind (arith, nat_tests, on) in
      subst (λ (u : Workunit). filter (above n) (v ∷ vs) ≡ u ∷ filter (above u.number) (v ∷ vs)) same
      (rw (on, not_above v.number v.number (omega arith)) (ap (λ l. v ∷ l) (all_kept n vs (later_too n v.number vs low up.0) ∙ sym (all_kept v.number vs up.0))))
  | inr off ↦
      let later : find (above n) vs ≡ Some w = subst (λ b. (if b then Some v else find (above n) vs) ≡ Some w) off found in
      let low : v.number < w.number = all_has (λ (u : Workunit). v.number < u.number) vs w up.0 (has_found (above n) vs w later).0 in
      rw (off, not_above w.number v.number (omega (arith, low))) (step n vs w up.1 later)
]

none_left : (n : ℕ) (ws : List Workunit) → find (above n) ws ≡ None → filter (above n) ws ≡ []
none_left n [] none = refl
none_left n (w ∷ ws) none = elim (cases_Bool (nat_lt n w.number)) [
  | inl on ↦ absurd (let e : Some w ≡ None = subst (λ b. (if b then Some w else find (above n) ws) ≡ None) on none in cc)
  | inr off ↦ rw off (none_left n ws (subst (λ b. (if b then Some w else find (above n) ws) ≡ None) off none))
]

next : (before : List Workunit) (w : Workunit) (after : List Workunit) → Rises (before ++ w ∷ after) → find (above w.number) (before ++ w ∷ after) ≡ slice_get after 0
next [] w [] up = rw (not_above w.number w.number (omega arith)) refl
next [] w (u ∷ us) up = rw (not_above w.number w.number (omega arith), is_above w.number u.number up.0.0) refl
next (v ∷ vs) w after up =
    let low : v.number < w.number = passed vs up.0 in
    rw (not_above w.number v.number (omega (arith, low))) (next vs w after up.1)
  where
    passed : (vs : List Workunit) → AllByRecursion (λ (u : Workunit). v.number < u.number) (vs ++ w ∷ after) → v.number < w.number
    passed [] all = all.0
    passed (u ∷ us) all = passed us all.1

module _ (db : Database) (world : World) (s : Refines db world) where
  -- what is above a number is the first workunit above it, and what is above that one's;
  pub above_more : (number : ℕ) (w : Workunit) → first_above number world ≡ Some w → all_above number world ≡ w ∷ all_above w.number world
  above_more number w found = step number world.workunits w (world_rises db world s) found

  -- where there is no first one, nothing is above it
  pub above_none : (number : ℕ) → first_above number world ≡ None → all_above number world ≡ []
  above_none number none = none_left number world.workunits none

  -- the first above a workunit is the one behind it
  pub above_next : (before after : List Workunit) (w : Workunit) → world.workunits ≡ before ++ w ∷ after → first_above w.number world ≡ slice_get after 0
  above_next before after w are = subst (λ ws. find (above w.number) ws ≡ slice_get after 0) (sym are) (next before w after (subst Rises are (world_rises db world s)))

-- all are above a number that is below them
pub above_all : (number : ℕ) (world : World) → All (λ (w : Workunit). number < w.number) world.workunits → all_above number world ≡ world.workunits
above_all number world low = all_kept number world.workunits (recursion_from_All (λ (w : Workunit). number < w.number) world.workunits low)
