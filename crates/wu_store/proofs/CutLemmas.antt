-- The world that the tables stand for once a workunit is deleted.
use Rattle.wu_schema.proofs.Words.{Binary, column, equal, stored_class, Executes, List, Ok, Row, Some, Refines, State, Workunit, World, [], has_rowid, not, number, pos, stored_workunit, subst, ℕ, ◌==◌, ◌∷◌, ◌≡◌}
use Rattle.wu_store.specs.Changes.{without_workunit}
use Rattle.wu_store.proofs.EqualLemmas.{number_equal, number_tied}
use Rattle.wu_store.proofs.InstanceLemmas.{instances_hold}
use Rattle.wu_schema.proofs.QuietLemmas.{same_some}
use Rattle.wu_schema.proofs.Parts.{Holds, child_column}
use Rattle.wu_schema.specs.declared.table.ProjectTable.{ProjectTable}
use Rattle.wu_schema.specs.declared.table.ProjectTable.TheVariants as the_table
use Rattle.wu_schema.proofs.StandsLemmas.{lists_still, lists_left}
use Rattle.wu_store.proofs.StandsWith.{stands_without_workunit}
use Rattle.wu_store.proofs.DeleteTexts.{delete_text}
use Rattle.wu_store.proofs.CascadeEffect.{without_number}
use Rattle.wu_store.proofs.DeleteEffect.{cuts, row_goes, children_go}

module _ (old new : State) (world : World) (s : Refines old.now world) (n : ℕ) where
  -- of each child the rows go that refer to the workunit, in the world as in the table
  child_goes : (q : ProjectTable) (c : ℕ) (rows : List Row) → child_column q ≡ Some c → Holds q rows world → Holds q (without_number (pos n) c rows) (without_workunit n world)
  child_goes the_table.Result c rows is h = subst (λ k. Holds the_table.Result (without_number (pos n) k rows) (without_workunit n world)) (same_some is) (instances_hold n not world.workunits rows h)
  child_goes the_table.WorkunitClass c rows is h =
      subst (λ k. Holds the_table.WorkunitClass (without_number (pos n) k rows) (without_workunit n world)) (same_some is) (lists_left stored_class (λ r. equal Binary (column r 0) (number n)) (λ (w : Workunit). w.number == n) rows world.workunits (λ w. number_equal w.number n) h)
  child_goes _ c rows is h = absurd (cc)

  pub deletes_workunit : (count : ℕ) → Executes delete_text (number n ∷ []) old new (Ok count) → Refines new.now (without_workunit n world)
  deletes_workunit count h =
      let t = s.trees in
      let has = (s.tables.each the_table.Workunit tt) in
      let listed = s.rows.workunits in
      let cut = cuts old new (t the_table.Workunit) has (pos n) count h in
      let left = lists_left stored_workunit (has_rowid (pos n)) (λ (w : Workunit). w.number == n) (old.now.trees (t the_table.Workunit)) world.workunits (λ w. number_tied w.number n) listed in
      stands_without_workunit old.now new.now world s n (without_number (pos n)) cut.schema (lists_still (row_goes old.now new.now (t the_table.Workunit) has (pos n) cut listed.shaped) left)
      (children_go old.now new.now (t the_table.Workunit) has (pos n) cut listed.shaped) child_goes cut.others cut.sound
