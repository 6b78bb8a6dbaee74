-- What the SELECTs of the summary answer, of the world that the tables stand for.
use Rattle.wu_schema.proofs.Words.{Grant, Instance, Int, IsPermutation, IsPermutation-map, IsPermutation-trans, List, None, Refines, Row, Shown, State, Value, Workunit, World, [], ap, arith, codes, col, column, drop, enumerate_from, everything, flat_map, grant_at, host_class_at, import_at, instance_cells, instances_of, length, length-map, length_permutation, lit, map, map-append, negsuc, number, refl, result_at, stored_grant, subst, sym, workunit_class_at, ℕ, ◌++◌, ◌+◌, ◌∙◌, ◌∷◌, ◌≡◌}
use Rattle.sqlite_sql.specs.Aggregate.{count}
use Rattle.wu_core.specs.Codes.{server_state_code}
use Rattle.wu_schema.proofs.AnswerLemmas.{meeting, showing}
use Rattle.wu_schema.proofs.CountAnswers.{all_counted}
use Rattle.wu_schema.proofs.CountTexts.{CountFits, Counted}
use Rattle.wu_schema.proofs.Parts.{parts_there}
use Rattle.wu_schema.specs.declared.table.ProjectTable.{ProjectTable}
use Rattle.wu_schema.specs.declared.table.ProjectTable.TheVariants as the_table
use Rattle.wu_schema.specs.ProjectTables.{IsTableOf, table_name, table_at}
use Rattle.wu_schema.proofs.RowLemmas.{no_test}
use Rattle.wu_schema.proofs.SelectLemmas.{Asked, Fits}
use Rattle.wu_schema.specs.Reading.{server_state_cell}
use Rattle.wu_store.specs.StandsFor.{KnowsClasses}
use Rattle.wu_store.proofs.AskLemmas.{IsQuestion, question}
use Rattle.wu_store.proofs.ReadAnswers.{asked_rows}
use Rattle.wu_views.specs.Counting.{IsCount, all_states, class_count, import_count, workunit_count}
use Rattle.wu_views.proofs.CountLemmas.{credit_cell, first_cells}
use Rattle.wu_views.specs.declared.texts.TheConstants.{COUNT_CLASSES, COUNT_IMPORTS, COUNT_WORKUNITS, SELECT_CREDIT, SELECT_STATES}

-- a SELECT that counts with no test
abbrev pub counting : List ℕ → Counted
counting text = record { text = text; parameters = []; tests = [] }

-- ---- all of a part

pub workunits_fit : (tree : ℕ) → CountFits (codes "workunit_class") (workunit_class_at tree) (counting COUNT_WORKUNITS.now)
unfolding everything
workunits_fit tree = record { tests = refl; strict = refl; height = (0, tt); few = omega arith; read = refl; typed = refl }

pub imports_fit : (tree : ℕ) → CountFits (codes "import") (import_at tree) (counting COUNT_IMPORTS.now)
unfolding everything
imports_fit tree = record { tests = refl; strict = refl; height = (0, tt); few = omega arith; read = refl; typed = refl }

pub classes_fit : (tree : ℕ) → CountFits (codes "host_class") (host_class_at tree) (counting COUNT_CLASSES.now)
unfolding everything
classes_fit tree = record { tests = refl; strict = refl; height = (0, tt); few = omega arith; read = refl; typed = refl }

module _ (old new : State) (world : World) (s : Refines old.now world) (rows : List Row) where
  part_counted : (p : ProjectTable) → IsTableOf p world.version → (text : List ℕ) → ((tree : ℕ) → CountFits (table_name p) (table_at p tree) (counting text)) → Shown text [] old new rows → IsCount rows (length (old.now.trees (table_at p (s.trees p)).tree))
  part_counted p is_in text fits h = let has = parts_there old.now world s p is_in in (all_counted (table_name p) has.0 (table_at p (s.trees p)) (counting text) old new has.1 [] rows (fits _) h).one ∙ ap (λ rs. (count (length rs) ∷ []) ∷ []) (no_test _)

  pub workunits_counted : KnowsClasses world → Shown COUNT_WORKUNITS.now [] old new rows → IsCount rows (workunit_count world)
  workunits_counted known h =
      part_counted the_table.WorkunitClass known _ workunits_fit h ∙ ap (λ n. (count n ∷ []) ∷ []) (ap (λ rs. length rs) (s.rows.classes known).workunits.same ∙ length-map world.workunits _)

  pub imports_counted : Shown COUNT_IMPORTS.now [] old new rows → IsCount rows (import_count world)
  imports_counted h =
      part_counted the_table.Import tt _ imports_fit h ∙ ap (λ n. (count n ∷ []) ∷ []) (sym (length-map (old.now.trees (s.trees the_table.Import)) (drop 1)) ∙ length_permutation _ _ s.rows.imports.same ∙ length-map world.imports _)

  pub classes_counted : KnowsClasses world → Shown COUNT_CLASSES.now [] old new rows → IsCount rows (class_count world)
  classes_counted known h =
      part_counted the_table.HostClass known _ classes_fit h ∙ ap (λ n. (count n ∷ []) ∷ []) (sym (length-map (old.now.trees (s.trees the_table.HostClass)) (drop 1)) ∙ length_permutation _ _ (s.rows.classes known).hosts.same ∙ length-map world.classes _)

-- ---- the states of instances

abbrev pub states_asked : Asked
states_asked = record { text = SELECT_STATES.now; parameters = []; shown = 2 ∷ []; tests = []; order = []; limit = None; upto = lit (Int (negsuc 0)) }

pub states_fit : (tree : ℕ) → Fits (codes "result") (result_at tree) states_asked
unfolding everything
states_fit tree = record { shown = refl; tests = refl; strict = refl; order = refl; height = (0, tt); few = omega arith; limit = λ schema. refl; read = refl; typed = refl }

pub states_question : IsQuestion states_asked.text [] Refines
states_question = question the_table.Result (λ _. tt) states_asked states_fit [] refl (λ _. refl)

-- the state among the cells of an instance
abbrev state_in : Row → Value
state_in cells = column cells 2

shown_states : (stored : List Row) → first_cells (showing (col 1 3 ∷ []) [] stored) ≡ map state_in (map (drop 1) stored)
shown_states [] = refl
shown_states (r ∷ stored) = λ i. seen r i ∷ shown_states stored i
  where
    seen : (r : Row) → column r 3 ≡ column (drop 1 r) 2
    seen [] = refl
    seen (v ∷ r) = refl

states_from : (w k : ℕ) (is : List Instance) → map state_in (map (λ (p : ℕ × Instance). instance_cells w p.0 p.1) (enumerate_from k is)) ≡ map server_state_cell (map (λ (i : Instance). i.server_state) is)
states_from w k [] = refl
states_from w k (i ∷ is) = ap (λ vs. number (server_state_code i.server_state) ∷ vs) (states_from w (k + 1) is)

states_of : (ws : List Workunit) → map state_in (flat_map instances_of ws) ≡ map server_state_cell (map (λ (i : Instance). i.server_state) (flat_map (λ (w : Workunit). w.instances) ws))
states_of [] = refl
states_of (w ∷ ws) =
    let more = flat_map (λ (v : Workunit). v.instances) ws in
    map-append state_in (instances_of w) (flat_map instances_of ws) ∙ (λ i. states_from w.number 0 w.instances i ++ states_of ws i)
    ∙ sym (map-append server_state_cell (map (λ (i : Instance). i.server_state) w.instances) (map (λ (i : Instance). i.server_state) more))
    ∙ ap (map server_state_cell) (sym (map-append (λ (i : Instance). i.server_state) w.instances more))

-- ---- the credit of grants

abbrev pub credit_asked : Asked
credit_asked = record { text = SELECT_CREDIT.now; parameters = []; shown = 4 ∷ []; tests = []; order = []; limit = None; upto = lit (Int (negsuc 0)) }

pub credit_fits : (tree : ℕ) → Fits (codes "credit_grant") (grant_at tree) credit_asked
unfolding everything
credit_fits tree = record { shown = refl; tests = refl; strict = refl; order = refl; height = (0, tt); few = omega arith; limit = λ schema. refl; read = refl; typed = refl }

pub credit_question : IsQuestion credit_asked.text [] Refines
credit_question = question the_table.Grant (λ _. tt) credit_asked credit_fits [] refl (λ _. refl)

shown_credit : (k : ℕ) (grants : List Grant) → first_cells (showing (col 1 5 ∷ []) [] (map stored_grant (enumerate_from k grants))) ≡ map credit_cell grants
shown_credit k [] = refl
shown_credit k (x ∷ grants) = ap (λ vs. number x.credit ∷ vs) (shown_credit (k + 1) grants)

module _ (old new : State) (world : World) (s : Refines old.now world) (rows : List Row) where
  -- the rows of the answer are the states of all instances, in some order
  pub states_found : Shown states_asked.text [] old new rows → IsPermutation (map server_state_cell (all_states world)) (first_cells rows)
  states_found h =
      let stored = old.now.trees (s.trees the_table.Result) in
      let seen = IsPermutation-map (λ (row : Row). column row 0) _ _ (asked_rows the_table.Result states_asked states_fit old new world s tt [] rows refl h) in
      let cells : first_cells (showing (col 1 3 ∷ []) [] (meeting [] [] stored)) ≡ map state_in (map (drop 1) stored) = ap (λ rs. first_cells (showing (col 1 3 ∷ []) [] rs)) (no_test stored) ∙ shown_states stored in
      let kept = IsPermutation-map state_in (flat_map instances_of world.workunits) (map (drop 1) stored) s.rows.instances.same in
      IsPermutation-trans _ _ _ (subst (λ vs. IsPermutation vs (map state_in (map (drop 1) stored))) (states_of world.workunits) kept) (subst (λ vs. IsPermutation vs (first_cells rows)) cells seen)

  -- and those of the other the credit of all grants
  pub credit_found : Shown credit_asked.text [] old new rows → IsPermutation (map credit_cell world.grants) (first_cells rows)
  credit_found h =
      let seen = IsPermutation-map (λ (row : Row). column row 0) _ _ (asked_rows the_table.Grant credit_asked credit_fits old new world s tt [] rows refl h) in
      let cells : first_cells (showing (col 1 5 ∷ []) [] (meeting [] [] (old.now.trees (s.trees the_table.Grant)))) ≡ map credit_cell world.grants =
      ap (λ rs. first_cells (showing (col 1 5 ∷ []) [] rs)) (no_test (old.now.trees (s.trees the_table.Grant)) ∙ s.rows.grants.same) ∙ shown_credit 1 world.grants in
      subst (λ vs. IsPermutation vs (first_cells rows)) cells seen
