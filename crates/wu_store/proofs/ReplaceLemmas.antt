-- A workunit is replaced where it stands: its row, its instances one by one, and its marks.
use Rattle.wu_schema.proofs.Words.{AllByRecursion, Bool, Database, Instance, List, None, Option, Refines, Some, Workunit, World, [], ap, arith, cases_Bool, eq-eqb, eqb-true, false, find, get_or, if◌then◌else◌, inl, inr, length, map, ne_eqb, refl, slice_get, suc, sym, true, zero, ℕ, ◌++◌, ◌<◌, ◌==◌, ◌∙◌, ◌∷◌, ◌≡◌, ◌≤◌}
use Rattle.std.proofs.Common.{Bor, option_map}
use Rattle.std.proofs.lemmas.Option.{slice_get-get_or}
use Rattle.std.specs.Prelude.{slice_set}
use Rattle.std.specs.Slice.{IsItemAt}
use Rattle.wu_core.specs.Storable.{bare}
use Rattle.wu_core.specs.declared.marks.Marks.{Marks}
use Rattle.wu_rules.specs.Marks.{marks}
use Rattle.wu_schema.proofs.QuietLemmas.{same_some}
use Rattle.wu_store.specs.Answers.{numbered}
use Rattle.wu_store.specs.Changes.{HasInstances, keeping_instances, put_at, with_instance, with_put, with_replaced, with_row, with_set}
use Rattle.wu_store.specs.Classes.{with_set_class}
use Rattle.wu_store.specs.Queues.{with_set_marks}
use Rattle.wu_store.specs.StandsFor.{marked}
use Rattle.wu_store.proofs.PlacedLemmas.{Rises, world_rises}
use Rattle.wu_store.proofs.SetInstance.{found_number}

-- ---- the workunit of a number, in a list in order of number

module _ (number : ℕ) where
  abbrev pub of_number : (Workunit → Workunit) → List Workunit → List Workunit
  of_number f = map (λ (v : Workunit). if v.number == number then f v else v)

  abbrev pub IsThe : Workunit → List Workunit → Type 0
  IsThe w ws = find (λ (v : Workunit). v.number == number) ws ≡ Some w

  above_stay : (f : Workunit → Workunit) (n : ℕ) (vs : List Workunit) → n ≡ number → AllByRecursion (λ (u : Workunit). n < u.number) vs → of_number f vs ≡ vs
  above_stay f n [] same up = refl
  above_stay f n (v ∷ vs) same up = let off = ne_eqb v.number number (λ one. omega (arith, same, one, up.0)) in rw off (ap (λ l. v ∷ l) (above_stay f n vs same up.1))

  -- only what becomes of this one matters
  pub one_changed : (f g : Workunit → Workunit) (w : Workunit) (ws : List Workunit) → Rises ws → IsThe w ws → f w ≡ g w → of_number f ws ≡ of_number g ws
  one_changed f g w [] up is same = refl
  one_changed f g w (v ∷ vs) up is same = elim (cases_Bool (v.number == number)) [
    | inl on ↦
        let here : v ≡ w = same_some (rw on at is) in
        let at : v.number ≡ number = eqb-true v.number number on in
        let left : of_number f vs ≡ of_number g vs = above_stay f v.number vs at up.0 ∙ sym (above_stay g v.number vs at up.0) in
        let mine : f v ≡ g v = ap f here ∙ same ∙ ap g (sym here) in
        rw on (ap (λ l. f v ∷ l) left ∙ ap (λ u. u ∷ of_number g vs) mine)
    | inr off ↦ rw off (ap (λ l. v ∷ l) (one_changed f g w vs up.1 (rw off at is) same))
  ]

  all_same : (ws : List Workunit) → of_number (λ v. v) ws ≡ ws
  all_same [] = refl
  all_same (v ∷ vs) = ap (λ u. u ∷ of_number (λ w. w) vs) (one (v.number == number)) ∙ ap (λ l. v ∷ l) (all_same vs)
    where
      one : (b : Bool) → (if b then v else v) ≡ v
      one true = refl
      one false = refl

  -- where it becomes what it is, all is as it was
  pub none_changed : (g : Workunit → Workunit) (w : Workunit) (ws : List Workunit) → Rises ws → IsThe w ws → w ≡ g w → ws ≡ of_number g ws
  none_changed g w ws up is same = sym (all_same ws) ∙ one_changed (λ v. v) g w ws up is same

  -- another one with the number takes its place
  module _ (u : Workunit) (is : u.number ≡ number) where
    pub found_replaced : (w : Workunit) (ws : List Workunit) → IsThe w ws → IsThe u (of_number (λ v. u) ws)
    found_replaced w [] found = absurd (cc)
    found_replaced w (v ∷ vs) found = elim (cases_Bool (v.number == number)) [
      | inl on ↦ let own = eq-eqb u.number number is in rw (on, own) refl
      | inr off ↦ rw (off, off) (found_replaced w vs (rw off at found))
    ]

    pub changed_again : (g : Workunit → Workunit) (ws : List Workunit) → of_number g (of_number (λ v. u) ws) ≡ of_number (λ v. g u) ws
    changed_again g [] = refl
    changed_again g (v ∷ vs) = elim (cases_Bool (v.number == number)) [
      | inl on ↦ let own = eq-eqb u.number number is in rw (on, own) (ap (λ l. g u ∷ l) (changed_again g vs))
      | inr off ↦ rw (off, off) (ap (λ l. v ∷ l) (changed_again g vs))
    ]

-- ---- an instance at a place

put_end : (i : Instance) (is : List Instance) (n : ℕ) → n ≤ length is → slice_get is n ≡ None → is ++ i ∷ [] ≡ put_at n i is
put_end i [] zero low none = refl
put_end i [] (suc n) low none = absurd (omega (arith, low))
put_end i (j ∷ is) zero low none = absurd (cc)
put_end i (j ∷ is) (suc n) low none = ap (λ l. j ∷ l) (put_end i is n (omega (arith, low)) none)

set_is_put : (i : Instance) (is : List Instance) (n : ℕ) → n < length is → slice_set is n i ≡ put_at n i is
set_is_put i [] n low = absurd (omega (arith, low))
set_is_put i (j ∷ is) zero low = refl
set_is_put i (j ∷ is) (suc n) low = ap (λ l. j ∷ l) (set_is_put i is n (omega (arith, low)))

put_same : (i : Instance) (is : List Instance) (n : ℕ) → slice_get is n ≡ Some i → is ≡ put_at n i is
put_same i [] n got = absurd (cc)
put_same i (j ∷ is) zero got = ap (λ k. k ∷ is) (same_some got)
put_same i (j ∷ is) (suc n) got = ap (λ l. j ∷ l) (put_same i is n got)

none_beyond : (is : List Instance) (n : ℕ) → length is ≤ n → slice_get is n ≡ None
none_beyond [] n high = refl
none_beyond (j ∷ is) zero high = absurd (omega (arith, high))
none_beyond (j ∷ is) (suc n) high = none_beyond is n (omega (arith, high))

-- what a slice lends of a place
pub lent_at : (is : List Instance) (n : ℕ) (r : Option (Bor Instance)) → IsItemAt is n r → slice_get is n ≡ option_map (λ (i : Bor Instance). i.now) r
lent_at is n None at = none_beyond is n at.3
lent_at is n (Some i) at = slice_get-get_or is n i.now at.3.0 ∙ ap (λ (j : Instance). Some j) (sym at.1)

pub got_below : (is : List Instance) (n : ℕ) (j : Instance) → slice_get is n ≡ Some j → n < length is
got_below [] n j got = absurd (cc)
got_below (k ∷ is) zero j got = omega arith
got_below (k ∷ is) (suc n) j got = let less = got_below is n j got in omega (arith, less)

module _ (db : Database) (world : World) (s : Refines db world) (number : ℕ) (w : Workunit) (is : numbered number world ≡ Some w) (n : ℕ) (i : Instance) where
  abbrev putting : Workunit → Workunit
  putting v = record v { instances = put_at n i v.instances }

  pub added_is_put : n ≤ length w.instances → slice_get w.instances n ≡ None → with_instance number i world ≡ with_put number n i world
  added_is_put low none = λ k. record world { workunits = one_changed number (λ v. record v { instances = v.instances ++ i ∷ [] }) putting w world.workunits (world_rises db world s) is (λ l. record w { instances = put_end i w.instances n low none l }) k }

  pub added_there : n ≤ length w.instances → slice_get w.instances n ≡ None → HasInstances number n world.workunits
  added_there low none = ap (λ o. Rattle.std.specs.Prelude.option_map (λ (v : Workunit). length v.instances) o) is ∙ ap (λ m. Some m) (all_there w.instances n low none)
    where
      all_there : (is : List Instance) (m : ℕ) → m ≤ length is → slice_get is m ≡ None → length is ≡ m
      all_there [] m low none = omega (arith, low)
      all_there (j ∷ is) zero low none = absurd (cc)
      all_there (j ∷ is) (suc m) low none = let rest = all_there is m (omega (arith, low)) none in omega (arith, rest)

  pub set_world_put : n < length w.instances → with_set number n i world ≡ with_put number n i world
  set_world_put low = λ k. record world { workunits = one_changed number (λ v. record v { instances = slice_set v.instances n i }) putting w world.workunits (world_rises db world s) is (λ l. record w { instances = set_is_put i w.instances n low l }) k }

  pub same_world_put : slice_get w.instances n ≡ Some i → world ≡ with_put number n i world
  same_world_put got = λ k. record world { workunits = none_changed number putting w world.workunits (world_rises db world s) is (λ l. record w { instances = put_same i w.instances n got l }) k }

-- ---- the first so many instances are those that are to be, the others those that were

abbrev pub mixed : ℕ → List Instance → List Instance → List Instance
mixed zero now was = was
mixed (suc k) [] was = was
mixed (suc k) (y ∷ ys) [] = y ∷ mixed k ys []
mixed (suc k) (y ∷ ys) (w ∷ ws) = y ∷ mixed k ys ws

pub put_mixed : (k : ℕ) (now was : List Instance) (i d : Instance) → k < length now → get_or now k d ≡ i → put_at k i (mixed k now was) ≡ mixed (suc k) now was
put_mixed k [] was i d low at = absurd (omega (arith, low))
put_mixed zero (y ∷ ys) [] i d low at = ap (λ j. j ∷ []) (sym at)
put_mixed zero (y ∷ ys) (w ∷ ws) i d low at = ap (λ j. j ∷ ws) (sym at)
put_mixed (suc k) (y ∷ ys) [] i d low at = ap (λ l. y ∷ l) (put_mixed k ys [] i d (omega (arith, low)) at)
put_mixed (suc k) (y ∷ ys) (w ∷ ws) i d low at = ap (λ l. y ∷ l) (put_mixed k ys ws i d (omega (arith, low)) at)

pub got_mixed : (k : ℕ) (now was : List Instance) → k ≤ length now → slice_get (mixed k now was) k ≡ slice_get was k
got_mixed zero now was low = refl
got_mixed (suc k) [] was low = refl
got_mixed (suc k) (y ∷ ys) [] low = got_mixed k ys [] (omega (arith, low))
got_mixed (suc k) (y ∷ ys) (w ∷ ws) low = got_mixed k ys ws (omega (arith, low))

pub long_mixed : (k : ℕ) (now was : List Instance) → k ≤ length now → k ≤ length (mixed k now was)
long_mixed zero now was low = omega arith
long_mixed (suc k) [] was low = absurd (omega (arith, low))
long_mixed (suc k) (y ∷ ys) [] low = let rest = long_mixed k ys [] (omega (arith, low)) in omega (arith, rest)
long_mixed (suc k) (y ∷ ys) (w ∷ ws) low = let rest = long_mixed k ys ws (omega (arith, low)) in omega (arith, rest)

pub whole_mixed : (now was : List Instance) → length was ≤ length now → mixed (length now) now was ≡ now
whole_mixed [] [] few = refl
whole_mixed [] (w ∷ ws) few = absurd (omega (arith, few))
whole_mixed (y ∷ ys) [] few = ap (λ l. y ∷ l) (whole_mixed ys [] (omega arith))
whole_mixed (y ∷ ys) (w ∷ ws) few = ap (λ l. y ∷ l) (whole_mixed ys ws (omega (arith, few)))

-- ---- in terms of the workunit that is to be

abbrev tagged : Workunit → ℕ × Marks
tagged v = (v.number, marks v)

module _ (w : Workunit) where
  tags_set : (ws : List Workunit) → with_set_marks w.number (marks w) (map tagged ws) ≡ map tagged (of_number w.number (λ v. w) ws)
  tags_set [] = refl
  tags_set (v ∷ vs) = ap (λ p. p ∷ with_set_marks w.number (marks w) (map tagged vs)) (one (v.number == w.number)) ∙ ap (λ ps. tagged (if v.number == w.number then w else v) ∷ ps) (tags_set vs)
    where
      one : (b : Bool) → (if b then (w.number, marks w) else tagged v) ≡ tagged (if b then w else v)
      one true = refl
      one false = refl

  tags_same : (u t : Workunit) → tagged u ≡ tagged t → (ws : List Workunit) → map tagged (of_number w.number (λ v. u) ws) ≡ map tagged (of_number w.number (λ v. t) ws)
  tags_same u t same [] = refl
  tags_same u t same (v ∷ vs) = ap (λ p. p ∷ map tagged (of_number w.number (λ z. u) vs)) (one (v.number == w.number)) ∙ ap (λ ps. tagged (if v.number == w.number then t else v) ∷ ps) (tags_same u t same vs)
    where
      one : (b : Bool) → tagged (if b then u else v) ≡ tagged (if b then t else v)
      one true = same
      one false = refl

  abbrev pub listing : List Instance → Workunit
  listing is = record w { instances = is }

  pub put_replaced : (world : World) (is : List Instance) (n : ℕ) (i : Instance) → with_put w.number n i (with_replaced (listing is) world) ≡ with_replaced (listing (put_at n i is)) world
  put_replaced world is n i = λ k. record world { workunits = changed_again w.number (listing is) refl (λ v. record v { instances = put_at n i v.instances }) world.workunits k }

  pub class_replaced : (world : World) (was : Workunit) → with_set_class w.number w.class (with_replaced (keeping_instances was w) world) ≡ with_replaced (listing was.instances) world
  class_replaced world was = λ k. record world { workunits = changed_again w.number (keeping_instances was w) refl (λ v. record v { class = w.class }) world.workunits k }

  pub class_kept : (world : World) (was : Workunit) → was.class ≡ w.class → with_replaced (keeping_instances was w) world ≡ with_replaced (listing was.instances) world
  class_kept world was same = ap (λ (class : ℕ). with_replaced (record w { instances = was.instances; class = class }) world) same

  pub replaced_found : (v : Workunit) (world : World) (is : List Instance) → numbered w.number world ≡ Some v → numbered w.number (with_replaced (listing is) world) ≡ Some (listing is)
  replaced_found v world is found = found_replaced w.number (listing is) refl v world.workunits found

  module _ (db : Database) (world : World) (s : Refines db world) (was : Workunit) (found : numbered w.number world ≡ Some was) where
    pub row_replaced : with_row w world ≡ with_replaced (keeping_instances was w) world
    row_replaced = λ k. record world { workunits = one_changed w.number (λ v. keeping_instances v w) (λ v. keeping_instances was w) was world.workunits (world_rises db world s) found refl k }

    pub row_same : bare was ≡ bare w → world ≡ with_replaced (keeping_instances was w) world
    row_same same = λ k. record world { workunits = none_changed w.number (λ v. keeping_instances was w) was world.workunits (world_rises db world s) found (ap (λ (b : Workunit). keeping_instances was b) same) k }

    -- the marks of all then
    pub marks_replaced : with_set_marks w.number (marks w) (marked world) ≡ marked (with_replaced w world)
    marks_replaced = tags_set world.workunits

    pub marks_same : marks was ≡ marks w → marked world ≡ marked (with_replaced w world)
    marks_same same =
        ap (map tagged) (none_changed w.number (λ v. was) was world.workunits (world_rises db world s) found refl)
        ∙ tags_same was w (λ i. (found_number w.number was world.workunits found i, same i)) world.workunits
