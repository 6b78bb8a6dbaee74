-- What the SELECT of a workunit's instances answers.
use Rattle.wu_schema.proofs.Words.{AllByRecursion, Bool, Instance, Int, IsAscending, IsPermutation, IsPermutation-filter, IsPermutation-map, IsTable, Less, List, None, Option, Output, Row, Shown, Some, Refines, State, Workunit, World, [], ap, append-nil, arith, column, drop, enumerate_from, false, filter, flat_map, instance_cells, instance_row, instances_of, lit, map, negsuc, number, option_to_list, refl, subst, sym, ℕ, ◌+◌, ◌<◌, ◌==◌, ◌∙◌, ◌∷◌, ◌≡◌}
use Rattle.wu_store.specs.Answers.{instance_rows_of, numbered}
use Rattle.std.specs.Option.{option_map_or}
use Rattle.wu_schema.proofs.RowLemmas.{one_test}
use Rattle.wu_schema.proofs.PutLemmas.{number_less}
use Rattle.wu_store.proofs.InstanceLemmas.{fits, instances_left}
use Rattle.wu_store.proofs.SelectTexts.{instances_asked, instances_fits, instances_tests, instances_shows}
use Rattle.wu_schema.specs.declared.table.ProjectTable.TheVariants as the_table
use Rattle.wu_store.proofs.ReadAnswers.{asked_answers, find_only, once_numbered}
use Rattle.wu_store.proofs.OrderAnswers.{behind_rowid, by_key, pair, passing, sure_sorted}

pub listed_from : (f : Workunit → List Row) (o : Option Workunit) → flat_map f (option_to_list o) ≡ option_map_or f o []
listed_from f None = refl
listed_from f (Some w) = append-nil (f w)

-- ---- by the number there

abbrev found_cells : Option Workunit → List Row
found_cells o = option_map_or instances_of o []

-- of the cells of an instance its number, and its columns but for its workunit and its number
abbrev pub cell_pair : Row → Output
cell_pair c = (column c 1 ∷ [], column c 2 ∷ column c 3 ∷ column c 4 ∷ column c 5 ∷ column c 6 ∷ column c 7 ∷ column c 8 ∷ column c 9 ∷ column c 10 ∷ [])

abbrev pub pairs_from : ℕ → ℕ → List Instance → List Output
pairs_from w k is = map cell_pair (map (λ (p : ℕ × Instance). instance_cells w p.0 p.1) (enumerate_from k is))

later : (w m k : ℕ) (i : Instance) (is : List Instance) → m < k → AllByRecursion (λ b. by_key (cell_pair (instance_cells w m i)) b ≡ Less) (pairs_from w k is)
later w m k i [] low = tt
later w m k i (j ∷ is) low = (number_less m k low, later w m (k + 1) i is (omega (arith, low)))

pub rising : (w k : ℕ) (is : List Instance) → IsAscending (λ a b. by_key a b ≡ Less) (pairs_from w k is)
rising w k [] = tt
rising w k (i ∷ is) = (later w k (k + 1) i is (omega arith), rising w (k + 1) is)

found_rise : (o : Option Workunit) → IsAscending (λ a b. by_key a b ≡ Less) (map cell_pair (found_cells o))
found_rise None = tt
found_rise (Some w) = rising w.number 0 w.instances

pub shown_from : (w k : ℕ) (is : List Instance) → map (λ (o : Output). o.1) (pairs_from w k is) ≡ map instance_row is
shown_from w k [] = refl
shown_from w k (i ∷ is) = ap (λ rows. instance_row i ∷ rows) (shown_from w (k + 1) is)

found_shown : (o : Option Workunit) → map (λ (p : Output). p.1) (map cell_pair (found_cells o)) ≡ option_map_or (λ (w : Workunit). map instance_row w.instances) o []
found_shown None = refl
found_shown (Some w) = shown_from w.number 0 w.instances

-- ---- the instances of the workunit of a number, in order of theirs

module _ (tree n : ℕ) where
  abbrev row_pair : Row → Output
  row_pair = pair tree instances_tests instances_shows 2 false (lit (Int (negsuc 0))) (number n ∷ [])

  abbrev row_passes : Row → Bool
  row_passes = passing tree instances_tests instances_shows 2 false (lit (Int (negsuc 0))) (number n ∷ [])

  tested : (r : Row) → row_passes r ≡ fits n (λ b. b) (drop 1 r)
  tested [] = one_test _
  tested (v ∷ r) = one_test _

  paired : (r : Row) → row_pair r ≡ cell_pair (drop 1 r)
  paired [] = refl
  paired (v ∷ r) = refl

module _ (old new : State) (world : World) (s : Refines old.now world) (n : ℕ) where
  pub instances_found : (rows : List Row) → Shown instances_asked.text (number n ∷ []) old new rows → rows ≡ instance_rows_of n world
  instances_found rows h =
      let tree = (s.trees the_table.Result) in
      let ws = world.workunits in
      let stored = old.now.trees tree in
      let of_n = numbered n world in
      let read = asked_answers the_table.Result instances_asked instances_fits old new world s tt (number n ∷ []) rows h in
      let one : filter (fits n (λ b. b)) (flat_map instances_of ws) ≡ found_cells of_n = instances_left n (λ b. b) ws ∙ ap (flat_map instances_of) (find_only (λ (w : Workunit). w.number == n) ws (once_numbered n ws (subst IsTable s.rows.workunits.same s.rows.workunits.shaped.0))) ∙ listed_from instances_of of_n in
      let cells = IsPermutation-map cell_pair _ _ (IsPermutation-filter (fits n (λ b. b)) (flat_map instances_of ws) (map (drop 1) stored) s.rows.instances.same) in
      let same : IsPermutation (map cell_pair (found_cells of_n)) (map (row_pair tree n) (filter (row_passes tree n) stored)) =
      subst (IsPermutation (map cell_pair (found_cells of_n))) (sym (behind_rowid (row_passes tree n) (fits n (λ b. b)) (row_pair tree n) cell_pair (tested tree n) (paired tree n) stored)) (subst (λ cs. IsPermutation (map cell_pair cs) (map cell_pair (filter (fits n (λ b. b)) (map (drop 1) stored)))) one cells) in
      sure_sorted tree instances_tests instances_shows 2 false (lit (Int (negsuc 0))) (number n ∷ []) old.now rows (map cell_pair (found_cells of_n)) (s.tables.each the_table.Result tt).1.low (found_rise of_n) same read.answer ∙ found_shown of_n
