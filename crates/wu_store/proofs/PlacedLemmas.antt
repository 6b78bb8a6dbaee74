-- A workunit at its place in order of number, and its instances beside those of the others.
use Rattle.wu_schema.proofs.Words.{AllByRecursion, Bool, None, Database, Equal, Greater, HoldsAll, Instance, Int, IsAscending, IsPermutation, IsPermutation-refl, IsPermutation-sym, IsPermutation-trans, IsShaped-put_row, IsTable, Less, List, ListsAll, Ordering, PutsOne, Row, Refines, Workunit, World, [], all_has, ap, arith, cases_Bool, drop, enumerate_from, eq-eqb, eqb-true, false, filter, flat_map, if◌then◌else◌, inl, inr, instance_cells, instances_of, is_eq, is_taken, length, list_any, map, map-append, nat_tests, next_rowid, not, pos, put_row, refl, rowid, some_has, stored_workunit, subst, sym, true, value_cmp, ℕ, ◌++◌, ◌+◌, ◌<◌, ◌==◌, ◌||◌, ◌∙◌, ◌∷◌, ◌≡◌, find, take, get_or, Some, option_map, ne_eqb, ◌≢◌, Null, Schema, number, stored_class}
use Rattle.wu_store.specs.Changes.{HasInstances, with_instance, with_placed, without_workunit, AddsInstance, HasNumber, LacksNumber, placed, with_replaced, with_workunit, and_instance}
use Rattle.std.proofs.Common.{append_assoc, length-take-le}
use Rattle.std.proofs.lemmas.List.{take_more}
use Rattle.std.proofs.lemmas.List.Elements.{All-from_recursion}
use Rattle.std.proofs.lemmas.List.Kept.{AllPairs-cons}
use Rattle.std.specs.List.{AllPairs}
use Rattle.std.specs.Ordering.{nat_cmp, match_ordering}
use Rattle.std.specs.Cmp.{nat_cmp_is}
use Rattle.wu_core.specs.Storable.{IsAbove}
use Rattle.std.proofs.lemmas.List.Sorted.{IsPermutation-append_comm, IsPermutation-append_left, IsPermutation-append_right}
use Rattle.wu_store.proofs.EqualLemmas.{number_tied}
use Rattle.wu_store.proofs.KeyedLemmas.{lists_at_place, map_stays, numbers_compare}
use Rattle.wu_schema.proofs.StandsLemmas.{but_one, no_instances, cells_put, lists_still}
use Rattle.wu_schema.proofs.QuietLemmas.{same_some}
use Rattle.wu_schema.specs.Stored.{workunit_cells}
use Rattle.wu_schema.specs.Tables.{IsClassedVersion}
use Rattle.wu_schema.proofs.Parts.{HasParts, Holds, is_part, Keeps, parts_there, keeps_both, keeps_but, either_false, frame, frame_one}
use Rattle.wu_schema.specs.declared.table.ProjectTable.{ProjectTable}
use Rattle.wu_schema.specs.declared.table.ProjectTable.TheVariants as the_table
use Rattle.wu_schema.specs.ProjectTables.{IsTableOf}

-- numbers rise
abbrev pub Rises : List Workunit → Type 0
Rises = IsAscending (λ (a b : Workunit). a.number < b.number)

-- ---- what each workunit brings

equal_numbers : (m n : ℕ) → nat_cmp m n ≡ Equal → (m == n) ≡ true
equal_numbers m n h = sym (number_tied m n) ∙ ap is_eq (numbers_compare m n ∙ h)

-- where the number is absent, all that the lists of the others bring, and what the new one brings
pub placed_brings : {X : Type 0} (f : Workunit → List X) (w : Workunit) (ws : List Workunit) → LacksNumber w.number ws → IsPermutation (f w ++ flat_map f ws) (flat_map f (placed w ws))
placed_brings f w [] none = IsPermutation-refl (f w ++ [])
placed_brings {X} f w (v ∷ vs) none = go (placed_brings f w vs off.1) (nat_cmp v.number w.number) refl
  where
    off : ((v.number == w.number) ≡ false) × LacksNumber w.number vs
    off = either_false _ _ none

    go : IsPermutation (f w ++ flat_map f vs) (flat_map f (placed w vs)) → (o : Ordering) → nat_cmp v.number w.number ≡ o → IsPermutation (f w ++ (f v ++ flat_map f vs)) (flat_map f (match_ordering o (v ∷ placed w vs) (w ∷ vs) (w ∷ v ∷ vs)))
    go again Less is =
        subst (λ xs. IsPermutation xs (f v ++ flat_map f (placed w vs))) (append_assoc (f w) (f v) (flat_map f vs))
        (IsPermutation-trans _ _ _ (IsPermutation-append_left (flat_map f vs) (f w ++ f v) (f v ++ f w) (IsPermutation-append_comm (f w) (f v)))
        (subst (λ xs. IsPermutation xs (f v ++ flat_map f (placed w vs))) (sym (append_assoc (f v) (f w) (flat_map f vs))) (IsPermutation-append_right (f v) (f w ++ flat_map f vs) (flat_map f (placed w vs)) again)))
    go again Equal is = absurd (let e = sym (equal_numbers v.number w.number is) ∙ off.0 in cc)
    go again Greater is = IsPermutation-refl (f w ++ (f v ++ flat_map f vs))

-- nothing is taken at a number that is absent, and the other way round
pub absent_from : (w : Workunit) (ws : List Workunit) → is_taken (map stored_workunit ws) (stored_workunit w) ≡ false → LacksNumber w.number ws
absent_from w [] free = refl
absent_from w (v ∷ vs) free =
    let off = either_false _ _ free in
    rw (sym (number_tied v.number w.number) ∙ off.0) (absent_from w vs off.1)

-- the cells in another order
pub holds_permuted : {rows cells other : List Row} → IsPermutation cells other → HoldsAll rows cells → HoldsAll rows other
holds_permuted {rows} {cells} {other} same h = record { shaped = h.shaped; same = IsPermutation-trans other cells (map (drop 1) rows) (IsPermutation-sym cells other same) h.same }

-- ---- deleted and then added is replaced

abbrev pub is_other : ℕ → Workunit → Bool
is_other n v = not (v.number == n)

abbrev pub replaced : Workunit → List Workunit → List Workunit
replaced w = map (λ v. if v.number == w.number then w else v)

above_apart : (m n : ℕ) → n < m → ((m == n) ≡ false) × (nat_cmp m n ≡ Greater)
above_apart m n low = (grind (arith, nat_tests, low), sym (nat_cmp_is m n Greater low))

-- where all are above
above_all : (w : Workunit) (vs : List Workunit) → AllByRecursion (λ (u : Workunit). w.number < u.number) vs → (filter (is_other w.number) vs ≡ vs) × (replaced w vs ≡ vs) × (placed w vs ≡ w ∷ vs)
above_all w [] up = (refl, refl, refl)
above_all w (u ∷ us) up =
    let is = above_apart u.number w.number up.0 in
    let rest = above_all w us up.1 in
    (rw is.0 (ap (λ l. u ∷ l) rest.0), rw is.0 (ap (λ l. u ∷ l) rest.1), rw is.1 refl)

either_true : (a b : Bool) → a ≡ false → (a || b) ≡ true → b ≡ true
either_true true b off h = absurd (cc)
either_true false b off h = h

pub replaces : (w : Workunit) (ws : List Workunit) → Rises ws → list_any (λ (v : Workunit). v.number == w.number) ws ≡ true → placed w (filter (is_other w.number) ws) ≡ replaced w ws
replaces w [] up some = absurd (cc)
replaces w (v ∷ vs) up some = elim (cases_Bool (v.number == w.number)) [
  | inl on ↦
      let all = above_all w vs (subst (λ n. AllByRecursion (λ (u : Workunit). n < u.number) vs) (eqb-true _ _ on) up.0) in
      rw on (ap (placed w) all.0 ∙ all.2 ∙ ap (λ l. w ∷ l) (sym all.1))
  | inr off ↦
      let later = either_true _ _ off some in
      let it = some_has (λ (u : Workunit). u.number == w.number) vs later in
      let low : v.number < w.number = subst (λ n. v.number < n) (eqb-true _ _ it.2) (all_has (λ (u : Workunit). v.number < u.number) vs it.0 up.0 it.1) in
      let less : nat_cmp v.number w.number ≡ Less = sym (nat_cmp_is v.number w.number Less low) in
      rw (off, less) (ap (λ l. v ∷ l) (replaces w vs up.1 later))
]

-- numbers rise in a table
less_number : (m n : ℕ) → value_cmp (Int (pos m)) (Int (pos n)) ≡ Less → m < n
less_number m n h = grind (arith, nat_tests, sym (numbers_compare m n) ∙ h)

all_rise : (v : Workunit) (vs : List Workunit) → AllByRecursion (λ r. value_cmp (Int (pos v.number)) (rowid r) ≡ Less) (map stored_workunit vs) → AllByRecursion (λ (u : Workunit). v.number < u.number) vs
all_rise v [] up = tt
all_rise v (u ∷ us) up = (less_number v.number u.number up.0, all_rise v us up.1)

pub table_rises : (ws : List Workunit) → IsTable (map stored_workunit ws) → Rises ws
table_rises [] up = tt
table_rises (v ∷ vs) up = (all_rise v vs up.0, table_rises vs up.1)

pub world_rises : (db : Database) (world : World) → Refines db world → Rises world.workunits
world_rises db world s = table_rises world.workunits (subst IsTable s.rows.workunits.same s.rows.workunits.shaped.0)

-- where numbers rise from each to the next ones, each is below all after it
pub rising_pairs : (ws : List Workunit) → Rises ws → AllPairs (λ (one other : Workunit). one.number < other.number) ws
rising_pairs [] up = λ i j d order low. absurd (omega (arith, low))
rising_pairs (w ∷ ws) up =
    AllPairs-cons (λ (one other : Workunit). one.number < other.number) w ws (All-from_recursion (λ (v : Workunit). w.number < v.number) ws up.0) (rising_pairs ws up.1)

-- one above all comes last
pub placed_last : (w : Workunit) (ws : List Workunit) → IsAbove w.number ws → placed w ws ≡ ws ++ w ∷ []
placed_last w [] low = refl
placed_last w (v ∷ vs) low = let less : nat_cmp v.number w.number ≡ Less = sym (nat_cmp_is v.number w.number Less low.0) in rw less (ap (λ l. v ∷ l) (placed_last w vs low.1))

-- ---- an instance more

pub enumerate_more : {X : Type 0} (k : ℕ) (xs : List X) (x : X) → enumerate_from k (xs ++ x ∷ []) ≡ enumerate_from k xs ++ (k + length xs, x) ∷ []
enumerate_more k [] x = let e : k ≡ k + 0 = omega arith in (λ i. (e i, x) ∷ [])
enumerate_more k (y ∷ xs) x = let e : k + 1 + length xs ≡ k + length (y ∷ xs) = omega arith in ap (λ l. (k, y) ∷ l) (enumerate_more (k + 1) xs x ∙ (λ i. enumerate_from (k + 1) xs ++ (e i, x) ∷ []))

-- a workunit of another number stays
others_same : (number : ℕ) (i : Instance) (ws : List Workunit) → LacksNumber number ws → map (and_instance number i) ws ≡ ws
others_same number i [] none = refl
others_same number i (w ∷ ws) none = let off = either_false (w.number == number) (list_any (λ (v : Workunit). v.number == number) ws) none in rw off.0 (ap (λ l. w ∷ l) (others_same number i ws off.1))

lacks_below : (number : ℕ) (ws : List Workunit) → AllByRecursion (λ (w : Workunit). number < w.number) ws → LacksNumber number ws
lacks_below number [] up = refl
lacks_below number (w ∷ ws) up = rw (above_apart w.number number up.0).0 (lacks_below number ws up.1)

-- the instances of a workunit may be added one by one
more_placed : (w : Workunit) (i : Instance) (ws : List Workunit) → LacksNumber w.number ws → map (and_instance w.number i) (placed w ws) ≡ placed (record w { instances = w.instances ++ i ∷ [] }) ws
more_placed w i [] none = rw (eq-eqb w.number w.number refl) refl
more_placed w i (v ∷ vs) none = go (nat_cmp v.number w.number) refl (more_placed w i vs off.1)
  where
    off : ((v.number == w.number) ≡ false) × LacksNumber w.number vs
    off = either_false _ _ none

    more : Workunit
    more = record w { instances = w.instances ++ i ∷ [] }

    same : (w.number == w.number) ≡ true
    same = eq-eqb w.number w.number refl

    go : (o : Ordering) → nat_cmp v.number w.number ≡ o → map (and_instance w.number i) (placed w vs) ≡ placed more vs → map (and_instance w.number i) (match_ordering o (v ∷ placed w vs) (w ∷ vs) (w ∷ v ∷ vs)) ≡ match_ordering o (v ∷ placed more vs) (more ∷ vs) (more ∷ v ∷ vs)
    go Less is again = rw off.0 (ap (λ l. v ∷ l) again)
    go Equal is again = absurd (let e = sym (equal_numbers v.number w.number is) ∙ off.0 in cc)
    go Greater is again = rw (same, off.0) (ap (λ l. more ∷ v ∷ l) (others_same w.number i vs off.1))

pub instance_placed : (w : Workunit) (i : Instance) (world : World) → LacksNumber w.number world.workunits → with_instance w.number i (with_placed w world) ≡ with_placed (and_instance w.number i w) world
instance_placed w i world none =
    (λ k. record world { workunits = more_placed w i world.workunits none k }) ∙ ap (λ b. with_placed (if b then record w { instances = w.instances ++ i ∷ [] } else w) world) (sym (eq-eqb w.number w.number refl))

instance_more : (w : Workunit) (i : Instance) → instances_of (record w { instances = w.instances ++ i ∷ [] }) ≡ instances_of w ++ instance_cells w.number (length w.instances) i ∷ []
instance_more w i =
    ap (map (λ (p : ℕ × Instance). instance_cells w.number p.0 p.1)) (enumerate_more 0 w.instances i) ∙ map-append (λ (p : ℕ × Instance). instance_cells w.number p.0 p.1) (enumerate_from 0 w.instances) ((0 + length w.instances, i) ∷ [])
    ∙ (let e : 0 + length w.instances ≡ length w.instances = omega arith in λ k. instances_of w ++ instance_cells w.number (e k) i ∷ [])

-- its cells come behind those of its workunit, and so beside all
instance_brings : (number n : ℕ) (i : Instance) (ws : List Workunit) → Rises ws → HasInstances number n ws → IsPermutation (flat_map instances_of ws ++ instance_cells number n i ∷ []) (flat_map instances_of (map (and_instance number i) ws))
instance_brings number n i [] up has = absurd (cc)
instance_brings number n i (w ∷ ws) up has = elim (cases_Bool (w.number == number)) [
  | inl on ↦
      let same = eqb-true _ _ on in
      let counted : length w.instances ≡ n = same_some (rw on at has) in
      let rest = others_same number i ws (lacks_below number ws (subst (λ m. AllByRecursion (λ (u : Workunit). m < u.number) ws) same up.0)) in
      let cells : instances_of (record w { instances = w.instances ++ i ∷ [] }) ≡ instances_of w ++ instance_cells number n i ∷ [] = instance_more w i ∙ (λ k. instances_of w ++ instance_cells (same k) (counted k) i ∷ []) in
      rw (on, rest, cells)
      (subst (λ xs. IsPermutation xs ((instances_of w ++ instance_cells number n i ∷ []) ++ flat_map instances_of ws)) (sym (append_assoc (instances_of w) (flat_map instances_of ws) (instance_cells number n i ∷ [])))
      (subst (IsPermutation (instances_of w ++ (flat_map instances_of ws ++ instance_cells number n i ∷ []))) (sym (append_assoc (instances_of w) (instance_cells number n i ∷ []) (flat_map instances_of ws)))
      (IsPermutation-append_right (instances_of w) (flat_map instances_of ws ++ instance_cells number n i ∷ []) (instance_cells number n i ∷ flat_map instances_of ws) (IsPermutation-append_comm (flat_map instances_of ws) (instance_cells number n i ∷ [])))))
  | inr off ↦
      rw off (subst (λ xs. IsPermutation xs (instances_of w ++ flat_map instances_of (map (and_instance number i) ws))) (sym (append_assoc (instances_of w) (flat_map instances_of ws) (instance_cells number n i ∷ [])))
      (IsPermutation-append_right (instances_of w) (flat_map instances_of ws ++ instance_cells number n i ∷ []) (flat_map instances_of (map (and_instance number i) ws)) (instance_brings number n i ws up.1 (rw off at has))))
]

-- the cells of a row that was put in come behind the others
pub holds_put : (cells : Row) (before rows : List Row) → is_taken rows (Int (next_rowid rows) ∷ cells) ≡ false → HoldsAll rows before → HoldsAll (put_row (Int (next_rowid rows) ∷ cells) rows) (before ++ cells ∷ [])
holds_put cells before rows free h = record { shaped = IsShaped-put_row (Int (next_rowid rows) ∷ cells) rows refl h.shaped; same = cells_put before cells (Int (next_rowid rows) ∷ cells) rows refl free h.same }

-- ---- a workunit and an instance, at their places

module _ (old new : Database) (world : World) (s : Refines old world) where
  -- beside a row that is put in
  pub keeps_put : (p : ProjectTable) (row : Row) → IsTableOf p world.version → PutsOne old new (s.trees p) row → Keeps world.version s.trees old new (is_part p)
  keeps_put p row in_p put = keeps_but world.version old s.trees (parts_there old world s) new p in_p (but_one old new (s.trees p) row put)

  -- since its row was put in, no workunit had its number
  pub was_free : (w : Workunit) → PutsOne old new (s.trees the_table.Workunit) (stored_workunit w) → LacksNumber w.number world.workunits
  was_free w put = absent_from w world.workunits (subst (λ rs. is_taken rs (stored_workunit w) ≡ false) s.rows.workunits.same put.fresh)

  -- an instance behind those of its workunit
  pub stands_with_instance : (number n : ℕ) (i : Instance) → PutsOne old new (s.trees the_table.Result) (Int (next_rowid (old.trees (s.trees the_table.Result))) ∷ instance_cells number n i) → HasInstances number n world.workunits → Refines new (with_instance number i world)
  stands_with_instance number n i put has =
      frame_one old new world (with_instance number i world) s the_table.Result tt put.schema refl (keeps_put the_table.Result (Int (next_rowid (old.trees (s.trees the_table.Result))) ∷ instance_cells number n i) tt put) carry
      (holds_permuted (instance_brings number n i world.workunits (table_rises world.workunits (subst IsTable s.rows.workunits.same s.rows.workunits.shaped.0)) has)
      (subst (λ rs. HoldsAll rs (flat_map instances_of world.workunits ++ instance_cells number n i ∷ [])) (sym put.rows) (holds_put (instance_cells number n i) (flat_map instances_of world.workunits) (old.trees (s.trees the_table.Result)) put.fresh s.rows.instances)))
      put.sound
    where
      carry : (q : ProjectTable) → is_part the_table.Result q ≡ false → (rows : List Row) → Holds q rows world → Holds q rows (with_instance number i world)
      carry the_table.Workunit off rows h = subst (ListsAll rows) (sym (map_stays (λ (w : Workunit). w.number == number) (λ w. record w { instances = w.instances ++ i ∷ [] }) stored_workunit (λ w on. refl) world.workunits)) h
      carry the_table.WorkunitClass off rows h = subst (ListsAll rows) (sym (map_stays (λ (w : Workunit). w.number == number) (λ w. record w { instances = w.instances ++ i ∷ [] }) stored_class (λ w on. refl) world.workunits)) h
      carry the_table.Result off rows h = absurd (cc)
      carry _ off rows h = h

-- a workunit that has no instances yet, and its class; since its row was put in, no other had its number
module _ (old mid new : Database) (world : World) (s : Refines old world) (known : IsClassedVersion world.version) (w : Workunit) (put : PutsOne old mid (s.trees the_table.Workunit) (stored_workunit w)) (class : PutsOne mid new (s.trees the_table.WorkunitClass) (stored_class w)) where
  abbrev is_new : ProjectTable → Bool
  is_new q = is_part the_table.Workunit q || is_part the_table.WorkunitClass q

  first : Keeps world.version s.trees old mid (is_part the_table.Workunit)
  first = keeps_put old mid world s the_table.Workunit (stored_workunit w) tt put

  second : Keeps world.version s.trees mid new (is_part the_table.WorkunitClass)
  second = keeps_but world.version mid s.trees (subst (λ (x : Schema). HasParts world.version x s.trees) (sym put.schema) (parts_there old world s)) new the_table.WorkunitClass known (but_one mid new (s.trees the_table.WorkunitClass) (stored_class w) class)

  brings : w.instances ≡ [] → IsPermutation (flat_map instances_of world.workunits) (flat_map instances_of (placed w world.workunits))
  brings none = subst (λ front. IsPermutation (front ++ flat_map instances_of world.workunits) (flat_map instances_of (placed w world.workunits))) (no_instances w none) (placed_brings instances_of w world.workunits (was_free old mid world s w put))

  carry : w.instances ≡ [] → (q : ProjectTable) → is_new q ≡ false → (rows : List Row) → Holds q rows world → Holds q rows (with_placed w world)
  carry none the_table.Workunit off rows h = absurd (cc)
  carry none the_table.WorkunitClass off rows h = absurd (cc)
  carry none the_table.Result off rows h = holds_permuted (brings none) h
  carry none _ off rows h = h

  has_new : (q : ProjectTable) → is_new q ≡ true → IsTableOf q world.version
  has_new the_table.HostClass on = absurd (cc)
  has_new the_table.WorkunitClass on = known
  has_new _ on = tt

  fits : (q : ProjectTable) → is_new q ≡ true → Holds q (new.trees (s.trees q)) (with_placed w world)
  fits the_table.Workunit on = lists_still (second the_table.Workunit tt refl ∙ put.rows) (lists_at_place (λ (v : Workunit). v.number) (λ v. Null ∷ workunit_cells v) w world.workunits (old.trees (s.trees the_table.Workunit)) s.rows.workunits)
  fits the_table.WorkunitClass on = lists_still (class.rows ∙ ap (put_row (stored_class w)) (first the_table.WorkunitClass known refl)) (lists_at_place (λ (v : Workunit). v.number) (λ v. Null ∷ number v.class ∷ []) w world.workunits (old.trees (s.trees the_table.WorkunitClass)) (s.rows.classes known).workunits)
  fits _ on = absurd (cc)

  pub stands_with_placed : w.instances ≡ [] → Refines new (with_placed w world)
  stands_with_placed none = frame old new world (with_placed w world) s is_new has_new (class.schema ∙ put.schema) refl (keeps_both world.version s.trees old mid new (is_part the_table.Workunit) (is_part the_table.WorkunitClass) first second) (carry none) fits class.sound

-- one above all comes last, and no other has its number
pub placed_above : (w : Workunit) (world : World) → IsAbove w.number world.workunits → with_placed w world ≡ with_workunit w world
placed_above w world above = λ i. record world { workunits = placed_last w world.workunits above i }

-- what was put at its place is found there
placed_found : (w : Workunit) (ws : List Workunit) → find (λ (v : Workunit). v.number == w.number) (placed w ws) ≡ Some w
placed_found w [] = rw (eq-eqb w.number w.number refl) refl
placed_found w (v ∷ vs) = go (nat_cmp v.number w.number) refl (placed_found w vs)
  where
    same : (w.number == w.number) ≡ true
    same = eq-eqb w.number w.number refl

    go : (o : Ordering) → nat_cmp v.number w.number ≡ o → find (λ (u : Workunit). u.number == w.number) (placed w vs) ≡ Some w → find (λ (u : Workunit). u.number == w.number) (match_ordering o (v ∷ placed w vs) (w ∷ vs) (w ∷ v ∷ vs)) ≡ Some w
    go Less is again = let low = less_number v.number w.number (numbers_compare v.number w.number ∙ is) in rw (ne_eqb v.number w.number (λ e. omega (arith, e, low))) again
    go Equal is again = rw same refl
    go Greater is again = rw same refl

-- the first so many instances of a workunit
abbrev pub first_instances : ℕ → Workunit → Workunit
first_instances n w = record w { instances = take n w.instances }

-- the next instance of a workunit that is put in with its first ones
pub next_instance : (old new : Database) (w : Workunit) (n : ℕ) (i d : Instance) (world : World) → LacksNumber w.number world.workunits → n < length w.instances → get_or w.instances n d ≡ i
    → AddsInstance w.number n i old new → Refines old (with_placed (first_instances n w) world) → Refines new (with_placed (first_instances (n + 1) w) world)
next_instance old new w n i d world none low at adds s =
    let before = first_instances n w in
    let counted : length (take n w.instances) ≡ n = length-take-le n w.instances (omega (arith, low)) in
    let has : HasInstances w.number n (placed before world.workunits) = ap (λ o. option_map (λ (v : Workunit). length v.instances) o) (placed_found before world.workunits) ∙ ap (λ m. Some m) counted in
    let more : and_instance w.number i before ≡ first_instances (n + 1) w =
    ap (λ b. if b then record w { instances = take n w.instances ++ i ∷ [] } else before) (eq-eqb w.number w.number refl)
    ∙ (λ k. record w { instances = (ap (λ one. take n w.instances ++ one ∷ []) (sym at) ∙ sym (take_more w.instances n d low)) k }) in
    subst (Refines new) (instance_placed before i world none ∙ ap (λ v. with_placed v world) more) (adds (with_placed before world) s has)

-- a workunit of a world that is deleted and then added is replaced
pub replaced_is : (db : Database) (world : World) (s : Refines db world) (w : Workunit) → HasNumber w.number world.workunits → with_placed w (without_workunit w.number world) ≡ with_replaced w world
replaced_is db world s w there = λ i. record world { workunits = replaces w world.workunits (world_rises db world s) there i }

-- it is not found, and each other one is
pub removed_gone : (n : ℕ) (ws : List Workunit) → find (λ (w : Workunit). w.number == n) (filter (is_other n) ws) ≡ None
removed_gone n [] = refl
removed_gone n (w ∷ ws) = elim (cases_Bool (w.number == n)) [
  | inl on ↦ rw on (removed_gone n ws)
  | inr off ↦ rw (off, off) (removed_gone n ws)
]

pub others_kept : (n other : ℕ) (ws : List Workunit) → n ≢ other → find (λ (w : Workunit). w.number == other) (filter (is_other n) ws) ≡ find (λ (w : Workunit). w.number == other) ws
others_kept n other [] apart = refl
others_kept n other (w ∷ ws) apart = elim (cases_Bool (w.number == n)) [
  | inl on ↦
      let no : (w.number == other) ≡ false = ne_eqb w.number other (λ same. apart (sym (eqb-true _ _ on) ∙ same)) in
      rw (on, no) (others_kept n other ws apart)
  | inr off ↦ rw off (ap (λ o. if w.number == other then Some w else o) (others_kept n other ws apart))
]

-- a workunit that is found by a number has it
pub is_there : (n : ℕ) (was : Workunit) (ws : List Workunit) → find (λ (w : Workunit). w.number == n) ws ≡ Some was → HasNumber n ws
is_there n was [] found = absurd (cc)
is_there n was (v ∷ vs) found = elim (cases_Bool (v.number == n)) [ inl on ↦ rw on refl | inr off ↦ rw off (is_there n was vs (rw off at found)) ]
