-- What the statement that sets an instance does to the world and to the queue.
use Rattle.wu_schema.proofs.Words.{Binary, Bool, Executes, Has, HoldsAll, Instance, Int, IsPermutation, IsPermutation-filter, IsTable, IsTrue, List, ListsAll, Ok, Refines, Row, Some, State, Term, Workunit, World, [], all_has, ap, arith, cases_Bool, cast_row, codes, col, column, drop, enumerate_from, eq-eqb, eqb-true, equal, everything, false, filter, filter-map, find, flat_map, has_filtered, if◌then◌else◌, inl, inr, instance_cells, instance_row, instances_of, is_int, length, map, map-append, nat_tests, ne_eqb, number, one_permutation, put_row, refl, result_at, rowid, stored_class, stored_workunit, subst, suc, sym, true, without_rowid, zero, ℕ, ℤ, ◌&&◌, ◌++◌, ◌+◌, ◌<◌, ◌==◌, ◌∙◌, ◌∷◌, ◌≡◌, ◌≤◌}
use Rattle.std.specs.Prelude.{slice_set}
use Rattle.sqlite_sql.specs.declared.ops.CompareOp.TheVariants as compare
use Rattle.wu_core.specs.declared.marks.Marks.{Marks}
use Rattle.wu_schema.specs.Queue.{HasQueue}
use Rattle.wu_schema.specs.Tables.{queue_at}
use Rattle.wu_schema.proofs.AnswerLemmas.{meeting, showing}
use Rattle.wu_schema.proofs.ExprLemmas.{same}
use Rattle.wu_schema.proofs.InsertEffect.{cast_int}
use Rattle.wu_schema.proofs.Parts.{Holds, apart, calm_from, frame_one, is_part, keeps_calm, parts_there}
use Rattle.wu_schema.specs.declared.table.ProjectTable.{ProjectTable}
use Rattle.wu_schema.specs.declared.table.ProjectTable.TheVariants as the_table
use Rattle.wu_schema.proofs.QueueLemmas.{queue_apart, queue_calm, queue_listed, queue_still}
use Rattle.wu_schema.proofs.QuietLemmas.{same_some}
use Rattle.wu_schema.proofs.RowLemmas.{filter_same, int_value, one_test}
use Rattle.wu_schema.proofs.SetTexts.{SetBy, SetFits}
use Rattle.wu_schema.proofs.StandsLemmas.{holds_still, is_there}
use Rattle.wu_store.specs.Answers.{numbered}
use Rattle.wu_store.specs.Changes.{and_set, with_set}
use Rattle.sqlite_rules.proofs.ListLemmas.{has_kept}
use Rattle.wu_store.proofs.KeyedLemmas.{map_stays}
use Rattle.wu_store.proofs.ChangeLemmas.{cast_number, cast_number_or_null, cast_text_or_null}
use Rattle.wu_store.proofs.EqualLemmas.{number_equal}
use Rattle.wu_store.proofs.InPlaceLemmas.{in_place, replaced}
use Rattle.wu_store.proofs.InstanceAnswers.{listed_from}
use Rattle.wu_store.proofs.InstanceLemmas.{fits, instances_left}
use Rattle.wu_store.proofs.ReadAnswers.{find_only, once_numbered}
use Rattle.wu_store.proofs.SetEffect.{holds_set, sets_by}
use Rattle.wu_store.proofs.UpdateEffect.{Sets, resets}
use Rattle.wu_store.specs.declared.texts.TheConstants.{UPDATE_RESULT}

abbrev pub instance_set : SetBy
instance_set = record {
  text = UPDATE_RESULT.now;
  parameters = codes "?1" ∷ codes "?2" ∷ codes "?3" ∷ codes "?4" ∷ codes "?5" ∷ codes "?6" ∷ codes "?7" ∷ codes "?8" ∷ codes "?9" ∷ codes "?10" ∷ codes "?11" ∷ [];
  columns = 2 ∷ 3 ∷ 4 ∷ 5 ∷ 6 ∷ 7 ∷ 8 ∷ 9 ∷ 10 ∷ [];
  tests = (0, compare.Eq, 0) ∷ (1, compare.Eq, 1) ∷ [];
  made = col 1 0 ∷ col 1 0 ∷ col 1 1 ∷ col 1 2 ∷ col 0 2 ∷ col 0 3 ∷ col 0 4 ∷ col 0 5 ∷ col 0 6 ∷ col 0 7 ∷ col 0 8 ∷ col 0 9 ∷ col 0 10 ∷ [];
}

pub instance_set_fits : (tree : ℕ) → SetFits (result_at tree) 2 instance_set
unfolding everything
instance_set_fits tree = record {
  read = refl;
  placed = (refl, (refl, (refl, (refl, (refl, (refl, (refl, (refl, (refl, tt)))))))));
  row_is = refl;
  tests = refl;
  strict = refl;
  height = (697, refl);
  few = omega arith;
  typed = refl;
}

abbrev by_key : List Term
by_key = same (col 1 1) (col 0 0) ∷ same (col 1 2) (col 0 1) ∷ []

instance_kept : (tree : ℕ) (id : ℤ) (w n : ℕ) (i : Instance) → cast_row (result_at tree) (Int id ∷ instance_cells w n i) ≡ Int id ∷ instance_cells w n i
instance_kept tree id w n i = simp (cast_int, cast_number, cast_number_or_null, cast_text_or_null)

filter_two : (p q : Row → Bool) (cs : List Row) → filter (λ c. p c && q c) cs ≡ filter q (filter p cs)
filter_two p q [] = refl
filter_two p q (c ∷ cs) = elim (cases_Bool (p c)) [
  | inl on ↦ rw on (elim (cases_Bool (q c)) [ inl too ↦ rw too (ap (λ l. c ∷ l) (filter_two p q cs)) | inr out ↦ rw out (filter_two p q cs) ])
  | inr off ↦ rw off (filter_two p q cs)
]

-- a workunit that is found by a number has it
pub found_number : (n : ℕ) (u : Workunit) (ws : List Workunit) → find (λ (w : Workunit). w.number == n) ws ≡ Some u → u.number ≡ n
found_number n u [] found = absurd (cc)
found_number n u (v ∷ vs) found = elim (cases_Bool (v.number == n)) [
  | inl on ↦ let here : v ≡ u = same_some (rw on at found) in ap (λ (w : Workunit). w.number) (sym here) ∙ eqb-true v.number n on
  | inr off ↦ found_number n u vs (rw off at found)
]

-- the one list whose parts behind the rowid are these cells
single : (c : Row) (xs : List Row) → map (drop 1) xs ≡ c ∷ [] → (x : Row) × (xs ≡ x ∷ []) × (drop 1 x ≡ c)
single c [] h = absurd (cc)
single c (x ∷ []) h = (x, refl, cc)
single c (x ∷ y ∷ ys) h = absurd (cc)

behind_at : (x : Row) (k : ℕ) → column x (suc k) ≡ column (drop 1 x) k
behind_at [] k = refl
behind_at (v ∷ r) k = refl

-- the cells of an instance by its workunit's number and its own
module _ (w n : ℕ) where
  abbrev is_mine : Row → Bool
  is_mine c = equal Binary (column c 0) (number w) && equal Binary (column c 1) (number n)

  abbrev cells_from : ℕ → ℕ → List Instance → List Row
  cells_from v k is = map (λ (p : ℕ × Instance). instance_cells v p.0 p.1) (enumerate_from k is)

  mine_is : (v k : ℕ) (i : Instance) → is_mine (instance_cells v k i) ≡ (v == w) && (k == n)
  mine_is v k i = ap (λ b. b && equal Binary (number k) (number n)) (number_equal v w) ∙ ap (λ b. (v == w) && b) (number_equal k n)

  abbrev of_place : Row → Bool
  of_place c = equal Binary (column c 1) (number n)

  none_later : (v k : ℕ) (is : List Instance) → n < k → filter of_place (cells_from v k is) ≡ []
  none_later v k [] low = refl
  none_later v k (i ∷ is) low = let off : of_place (instance_cells v k i) ≡ false = number_equal k n ∙ ne_eqb k n (λ same. omega (arith, low, same)) in rw off (none_later v (k + 1) is (omega (arith, low)))

  before : (k m : ℕ) → k ≤ m → (k == m) ≡ false → k < m
  before k m low off = grind (arith, nat_tests, low, off)

  only_there : (v k : ℕ) (is : List Instance) → k ≤ n → n < k + length is → (i : Instance) × (filter of_place (cells_from v k is) ≡ instance_cells v n i ∷ [])
  only_there v k [] low high = absurd (omega (arith, low, high))
  only_there v k (i ∷ is) low high = elim (cases_Bool (k == n)) [
    | inl on ↦
        let at : k ≡ n = eqb-true k n on in
        let found : of_place (instance_cells v k i) ≡ true = number_equal k n ∙ on in
        (i, rw (found, none_later v (k + 1) is (omega (arith, at))) (ap (λ m. instance_cells v m i ∷ []) at))
    | inr off ↦
        let other : of_place (instance_cells v k i) ≡ false = number_equal k n ∙ off in
        let less : k < n = before k n low off in
        let more = only_there v (k + 1) is (omega (arith, less)) (omega (arith, high)) in
        (more.0, rw other more.1)
  ]

  module _ (i : Instance) where
    abbrev set_cells : Row → Row
    set_cells c = if is_mine c then instance_cells w n i else c

    stays : (v k : ℕ) (j : Instance) → (v == w) && (k == n) ≡ false → set_cells (instance_cells v k j) ≡ instance_cells v k j
    stays v k j off = let other : is_mine (instance_cells v k j) ≡ false = mine_is v k j ∙ off in rw other refl

    and_off : (a : Bool) → a && false ≡ false
    and_off true = refl
    and_off false = refl

    stay_later : (v k : ℕ) (is : List Instance) → n < k → map set_cells (cells_from v k is) ≡ cells_from v k is
    stay_later v k [] low = refl
    stay_later v k (j ∷ is) low =
        let off : (v == w) && (k == n) ≡ false = ap (λ b. (v == w) && b) (ne_eqb k n (λ same. omega (arith, low, same))) ∙ and_off (v == w) in
        ap (λ c. c ∷ map set_cells (cells_from v (k + 1) is)) (stays v k j off) ∙ ap (λ cs. instance_cells v k j ∷ cs) (stay_later v (k + 1) is (omega (arith, low)))

    stay_others : (v k : ℕ) (is : List Instance) → (v == w) ≡ false → map set_cells (cells_from v k is) ≡ cells_from v k is
    stay_others v k [] off = refl
    stay_others v k (j ∷ is) off = ap (λ c. c ∷ map set_cells (cells_from v (k + 1) is)) (stays v k j (ap (λ b. b && (k == n)) off)) ∙ ap (λ cs. instance_cells v k j ∷ cs) (stay_others v (k + 1) is off)

    set_there : (k m : ℕ) (is : List Instance) → n ≡ k + m → map set_cells (cells_from w k is) ≡ cells_from w k (slice_set is m i)
    set_there k m [] at = refl
    set_there k zero (j ∷ is) at =
        let here : k ≡ n = omega (arith, at) in
        let found : is_mine (instance_cells w k j) ≡ true = mine_is w k j ∙ ap (λ b. b && (k == n)) (eq-eqb w w refl) ∙ eq-eqb k n here in
        ap (λ cs. set_cells (instance_cells w k j) ∷ cs) (stay_later w (k + 1) is (omega (arith, here))) ∙ ap (λ c. c ∷ cells_from w (k + 1) is) (rw found (ap (λ m. instance_cells w m i) (sym here)))
    set_there k (suc m) (j ∷ is) at =
        let off : (w == w) && (k == n) ≡ false = ap (λ b. (w == w) && b) (ne_eqb k n (λ same. omega (arith, at, same))) ∙ and_off (w == w) in
        ap (λ c. c ∷ map set_cells (cells_from w (k + 1) is)) (stays w k j off) ∙ ap (λ cs. instance_cells w k j ∷ cs) (set_there (k + 1) m is (omega (arith, at)))

    of_one : (v : Workunit) → map set_cells (instances_of v) ≡ instances_of (and_set w n i v)
    of_one v = elim (cases_Bool (v.number == w)) [
      | inl on ↦
          let is : v.number ≡ w = eqb-true v.number w on in
          rw on (ap (λ m. map set_cells (cells_from m 0 v.instances)) is ∙ set_there 0 n v.instances (omega arith) ∙ ap (λ m. cells_from m 0 (slice_set v.instances n i)) (sym is))
      | inr off ↦ rw off (stay_others v.number 0 v.instances off)
    ]

    pub all_set : (ws : List Workunit) → map set_cells (flat_map instances_of ws) ≡ flat_map instances_of (map (and_set w n i) ws)
    all_set [] = refl
    all_set (v ∷ vs) = map-append set_cells (instances_of v) (flat_map instances_of vs) ∙ ap (λ cs. cs ++ map set_cells (flat_map instances_of vs)) (of_one v) ∙ ap (λ cs. instances_of (and_set w n i v) ++ cs) (all_set vs)

module _ (old new : State) (world : World) (s : Refines old.now world) (w n : ℕ) (i : Instance) (u : Workunit) (is : numbered w world ≡ Some u) (low : n < length u.instances) (count : ℕ) (ran : Executes instance_set.text (instance_cells w n i) old new (Ok count)) where
  abbrev tree : ℕ
  tree = (s.trees the_table.Result)

  abbrev rows : List Row
  rows = old.now.trees tree

  abbrev cells : List Row
  cells = flat_map instances_of world.workunits

  instance_sets : Sets old.now new.now (result_at tree) by_key instance_set.made (instance_cells w n i)
  instance_sets = sets_by old new (result_at tree) (s.tables.each the_table.Result tt).0 (s.tables.each the_table.Result tt).1 (is_there old.now.schema _ _ (s.tables.each the_table.Result tt)) 2 instance_set (instance_set_fits tree) (instance_cells w n i) count ran

  abbrev mine : Row → Bool
  mine r = is_mine w n (drop 1 r)

  tested : (r : Row) → equal Binary (column r 1) (number w) && (equal Binary (column r 2) (number n) && true) ≡ mine r
  tested r = ap (λ b. equal Binary (column r 1) (number w) && b) (one_test _) ∙ ap (λ v. equal Binary v (number w) && equal Binary (column r 2) (number n)) (behind_at r 0) ∙ ap (λ v. equal Binary (column (drop 1 r) 0) (number w) && equal Binary v (number n)) (behind_at r 1)

  meets_key : meeting by_key (instance_cells w n i) rows ≡ filter mine rows
  meets_key = filter_same _ _ rows (λ r there. tested r)

  -- the one instance that there is
  one_cell : (j : Instance) × (filter (is_mine w n) cells ≡ instance_cells w n j ∷ [])
  one_cell =
      let ws = world.workunits in
      let own = found_number w u ws is in
      let all : filter (fits w (λ b. b)) cells ≡ instances_of u = instances_left w (λ b. b) ws ∙ ap (flat_map instances_of) (find_only (λ (v : Workunit). v.number == w) ws (once_numbered w ws (subst IsTable s.rows.workunits.same s.rows.workunits.shaped.0)))
      ∙ listed_from instances_of (numbered w world) ∙ ap (λ o. Rattle.std.specs.Option.option_map_or instances_of o []) is in
      let there = only_there w n u.number 0 u.instances (omega arith) (omega (arith, low)) in
      (there.0, filter_two (fits w (λ b. b)) (of_place w n) cells ∙ ap (filter (of_place w n)) all ∙ there.1 ∙ ap (λ m. instance_cells m n there.0 ∷ []) own)

  one_row : (x : Row) × (filter mine rows ≡ x ∷ []) × (drop 1 x ≡ instance_cells w n one_cell.0)
  one_row =
      let c = instance_cells w n one_cell.0 in
      let permuted = IsPermutation-filter (is_mine w n) cells (map (drop 1) rows) s.rows.instances.same in
      single c (filter mine rows) (sym (filter-map (is_mine w n) (drop 1) rows) ∙ one_permutation c _ (subst (λ cs. IsPermutation cs (filter (is_mine w n) (map (drop 1) rows))) one_cell.1 permuted))

  abbrev x : Row
  x = one_row.0

  has_x : Has rows x × (mine x ≡ true)
  has_x = has_filtered mine rows x (subst (λ rs. Has rs x) (sym one_row.1) (inl refl))

  id_is : (id : ℤ) × (rowid x ≡ Int id)
  id_is = int_value (rowid x) (all_has (λ r. IsTrue (is_int (rowid r))) rows x s.rows.instances.shaped.1 has_x.0)

  abbrev id : ℤ
  id = id_is.0

  abbrev new_row : Row
  new_row = Int id ∷ instance_cells w n i

  found_is : instance_sets.found ≡ (Int id ∷ new_row) ∷ []
  found_is =
      let shown : IsPermutation (showing instance_set.made (instance_cells w n i) (x ∷ [])) instance_sets.found = subst (λ rs. IsPermutation (showing instance_set.made (instance_cells w n i) rs) instance_sets.found) (meets_key ∙ one_row.1) instance_sets.shown in
      let first : column x 1 ≡ number w = behind_at x 0 ∙ ap (λ c. column c 0) one_row.2 in
      let second : column x 2 ≡ number n = behind_at x 1 ∙ ap (λ c. column c 1) one_row.2 in
      one_permutation _ instance_sets.found shown ∙ (λ k. (id_is.1 k ∷ id_is.1 k ∷ first k ∷ second k ∷ instance_row i) ∷ [])

  rows_are : new.now.trees tree ≡ replaced id new_row rows
  rows_are = instance_sets.rows (calm_from world.version old.now s.trees (parts_there old.now world s) tree (apart world.version old.now s.trees (parts_there old.now world s) the_table.Result the_table.Workunit tt tt refl) the_table.Result tt)
      ∙ ap (resets (result_at tree) rows) found_is ∙ ap (λ r. put_row r (without_rowid id rows)) (instance_kept tree id w n i) ∙ in_place id new_row x id_is.1 refl rows s.rows.instances.shaped.0 has_x.0

  -- the row is that of the key, and no other
  only : (r : Row) → Has rows r → mine r ≡ true → r ≡ x
  only r there on = elim (subst (λ rs. Has rs r) one_row.1 (has_kept mine rows r there on)) [ inl one ↦ one | inr none ↦ absurd none ]

  holds_all : HoldsAll (replaced id new_row rows) (flat_map instances_of (map (and_set w n i) world.workunits))
  holds_all = subst (HoldsAll (replaced id new_row rows)) (all_set w n i world.workunits) (holds_set id new_row rows s.rows.instances.shaped refl (is_mine w n) x has_x.0 id_is.1 has_x.1 only cells s.rows.instances)

  pub sets_instance : Refines new.now (with_set w n i world)
  sets_instance = frame_one old.now new.now world (with_set w n i world) s the_table.Result tt instance_sets.schema refl
      (keeps_calm world.version old.now s.trees (parts_there old.now world s) new.now the_table.Result tt refl instance_sets.others) carry (holds_still rows_are holds_all) instance_sets.sound
    where
      carry : (p : ProjectTable) → is_part the_table.Result p ≡ false → (rs : List Row) → Holds p rs world → Holds p rs (with_set w n i world)
      carry the_table.Result off rs h = absurd (cc)
      carry the_table.Workunit off rs h = subst (ListsAll rs) (sym (map_stays (λ (v : Workunit). v.number == w) (λ v. record v { instances = slice_set v.instances n i }) stored_workunit (λ v on. refl) world.workunits)) h
      carry the_table.WorkunitClass off rs h = subst (ListsAll rs) (sym (map_stays (λ (v : Workunit). v.number == w) (λ v. record v { instances = slice_set v.instances n i }) stored_class (λ v on. refl) world.workunits)) h
      carry _ off rs h = h

  pub set_leaves : (marked : List (ℕ × Marks)) → HasQueue old.now marked → HasQueue new.now marked
  set_leaves marked q = queue_still old.now new.now marked q instance_sets.schema
      (instance_sets.others (queue_at q.tree) (queue_listed old.now world s marked q) (λ same. queue_apart old.now world s marked q the_table.Result tt (sym same)) (queue_calm old.now world s marked q the_table.Result tt refl))
