-- What each change keeps of the world that a database stands for.
use Rattle.wu_schema.proofs.Words.{AllByRecursion, Binary, Database, Enforced, Has, HoldsAll, Workunit, cases_Bool, filter, inl, not, ℕ, Import, Int, IsCalm, IsDatabase, IsTrue, List, ListsAll, OwnsTree, PutsOne, Row, Schema, Some, Refines, Table, World, [], all_has, and_from, and_parts, ap, bytes_eq, column, drop, eq-eqb, eqb-true, equal, false, false_from_ne_true, first_key, has_mapped, import_at, import_cells, import_kind_code, inr, is_eq, is_import, is_int, map, map-append, mapped_has, next_rowid, put_row, refl, rowid, stored_project, stored_workunit, subst, sym, true, value_cmp, ℕ, ◌++◌, ◌==◌, ◌∙◌, ◌∷◌, ◌≡◌, ◌≢◌}
use Rattle.std.proofs.lemmas.List.Elements.{All-from_recursion, All-push, recursion_from_All}
use Rattle.wu_core.specs.World.{MayBeKept}
use Rattle.wu_store.specs.Changes.{with_import, with_next, without_workunit}
use Rattle.sqlite_rules.proofs.TableLemmas.{has_put}
use Rattle.sqlite_catalog.proofs.ListFacts.{ascending_push}
use Rattle.wu_schema.proofs.RowLemmas.{int_value}
use Rattle.wu_store.proofs.EqualLemmas.{text_equal, number_equal}
use Rattle.wu_store.proofs.OnceLemmas.{has_permuted, kind_in, key_once}
use Rattle.wu_schema.proofs.PutLemmas.{put_beside}
use Rattle.wu_schema.proofs.StandsLemmas.{ChildrenAre, is_there, bytes_back, none_has}
use Rattle.wu_store.proofs.PlacedLemmas.{holds_put, keeps_put}
use Rattle.wu_schema.proofs.Parts.{Holds, is_part, child_column, child_shaped, falls_with_work, parts_there, parts_hold, keeps_calm, keeps_bare, child_left, frame_in, frame_one}
use Rattle.wu_schema.specs.declared.table.ProjectTable.{ProjectTable}
use Rattle.wu_schema.specs.declared.table.ProjectTable.TheVariants as the_table
use Rattle.wu_schema.specs.ProjectTables.{IsTableOf}

module _ (old new : Database) (world : World) (s : Refines old world) where
  module _ (import : Import) (put : PutsOne old new (s.trees the_table.Import) (Int (next_rowid (old.trees (s.trees the_table.Import))) ∷ import_cells import)) (a : Import) where
    abbrev tree : ℕ
    tree = (s.trees the_table.Import)

    abbrev new_row : Row
    new_row = Int (next_rowid (old.trees tree)) ∷ import_cells import

    -- each row that was there is there beside the new one
    stays_there : (r : Row) → Has (old.trees tree) r → Has (new.trees tree) r
    stays_there r has = subst (λ rs. Has rs r) (sym put.rows) (has_permuted (new_row ∷ old.trees tree) (put_row new_row (old.trees tree)) r (put_beside new_row (old.trees tree) put.fresh) (inr has))

    put_there : Has (new.trees tree) new_row
    put_there = subst (λ rs. Has rs new_row) (sym put.rows) (has_put new_row (old.trees tree))

    table_there : Has new.schema.tables (import_at tree)
    table_there = subst (λ (x : Schema). Has x.tables (import_at tree)) (sym put.schema) (is_there old.schema _ _ (s.tables.each the_table.Import tt))

    -- a row of its kind and name would break the table's key
    no_row : import_kind_code import.kind ≡ import_kind_code a.kind → bytes_eq import.name a.name ≡ true → (r : Row) → Has (old.trees tree) r → import_cells a ≡ drop 1 r → ⊥
    unfolding first_key
    no_row kinds names r has is =
        let cells = kind_in r a (sym is) in
        let id = int_value (rowid r) (all_has (λ q. IsTrue (is_int (rowid q))) (old.trees tree) r s.rows.imports.shaped.1 has) in
        let apart = none_has (λ q. is_eq (value_cmp (rowid q) (rowid new_row))) (old.trees tree) r put.fresh has in
        let kind : equal Binary (column r 1) (column new_row 1) ≡ true = ap (λ v. equal Binary v (column new_row 1)) cells.0 ∙ number_equal _ _ ∙ ap (λ n. n == import_kind_code import.kind) (sym kinds) ∙ eq-eqb _ _ refl in
        let name : equal Binary (column r 2) (column new_row 2) ≡ true = ap (λ v. equal Binary v (column new_row 2)) cells.1 ∙ text_equal a.name import.name ∙ bytes_back import.name a.name names in
        key_once new (import_at tree) 0 (1 ∷ 2 ∷ []) refl put.sound table_there new_row r put_there (stays_there r has) apart id.0 (next_rowid (old.trees tree)) id.1 refl (λ at. and_from _ _ kind (and_from _ _ name refl))

    -- no import that was there has the new one's kind and name
    new_once : Has world.imports a → is_import a.kind a.name import ≡ false
    new_once listed = false_from_ne_true _ (λ same.
        let parts = and_parts _ _ same in
        let it = has_mapped (drop 1) (old.trees tree) (import_cells a) (has_permuted (map import_cells world.imports) (map (drop 1) (old.trees tree)) (import_cells a) s.rows.imports.same (mapped_has import_cells world.imports a listed)) in
        no_row (eqb-true _ _ parts.0) parts.1 it.0 it.1 it.2)

  -- an import of which no row has the rowid
  pub stands_with_import : (import : Import) → MayBeKept import → PutsOne old new (s.trees the_table.Import) (Int (next_rowid (old.trees (s.trees the_table.Import))) ∷ import_cells import) → Refines new (with_import import world)
  stands_with_import import kept put =
      let row : Row = Int (next_rowid (old.trees (s.trees the_table.Import))) ∷ import_cells import in
      let before = old.trees (s.trees the_table.Import) in
      frame_one old new world (with_import import world) s the_table.Import tt put.schema refl (keeps_put old new world s the_table.Import row tt put) carry (
        subst (λ rs. HoldsAll rs (map import_cells (world.imports ++ import ∷ []))) (sym put.rows)
            (subst (HoldsAll (put_row row before)) (sym (map-append import_cells world.imports (import ∷ []))) (holds_put (import_cells import) (map import_cells world.imports) before put.fresh s.rows.imports)),
        ascending_push (λ (a b : Import). is_import a.kind a.name b ≡ false) world.imports import s.rows.imported_once (new_once import put),
        recursion_from_All MayBeKept (world.imports ++ import ∷ []) (All-push MayBeKept world.imports import (All-from_recursion MayBeKept world.imports s.rows.imports_kept) kept),
      ) put.sound
    where
      carry : (q : ProjectTable) → is_part the_table.Import q ≡ false → (rows : List Row) → Holds q rows world → Holds q rows (with_import import world)
      carry the_table.Import off rows h = absurd (cc)
      carry _ off rows h = h

  -- the row of the project has another number, and our other tables stay
  pub stands_with_next : (n : ℕ) → new.schema ≡ old.schema → new.trees (s.trees the_table.Project) ≡ stored_project (with_next n world) ∷ []
      → ((t : Table) → Has old.schema.tables t → t.tree ≢ (s.trees the_table.Project) → IsCalm old.schema Enforced t (s.trees the_table.Project) → new.trees t.tree ≡ old.trees t.tree) → IsDatabase new → Refines new (with_next n world)
  stands_with_next n same is others sound = frame_one old new world (with_next n world) s the_table.Project tt same refl (keeps_calm world.version old s.trees (parts_there old world s) new the_table.Project tt refl others) carry is sound
    where
      carry : (q : ProjectTable) → is_part the_table.Project q ≡ false → (rows : List Row) → Holds q rows world → Holds q rows (with_next n world)
      carry the_table.Project off rows h = absurd (cc)
      carry _ off rows h = h

  -- the row of a workunit is gone, something of its children is left, and our other tables stay
  pub stands_without_workunit : (n : ℕ) (left : ℕ → List Row → List Row) → new.schema ≡ old.schema → ListsAll (new.trees (s.trees the_table.Workunit)) (map stored_workunit (without_workunit n world).workunits)
      → ChildrenAre old new left → ((q : ProjectTable) (c : ℕ) (rows : List Row) → child_column q ≡ Some c → Holds q rows world → Holds q (left c rows) (without_workunit n world))
      → ((u : Table) → Has old.schema.tables u → OwnsTree old.schema u → u.tree ≢ (s.trees the_table.Workunit) → u.references ≡ [] → new.trees u.tree ≡ old.trees u.tree) → IsDatabase new → Refines new (without_workunit n world)
  stands_without_workunit n left same workunits children hold bare sound =
      frame_in old new world (without_workunit n world) s falls_with_work same refl (keeps_bare world.version old s.trees (parts_there old world s) new bare) carry fits (λ off none. record { hosts = none.hosts; workunits = kept_of world.workunits none.workunits }) sound
    where
      kept_of : (ws : List Workunit) → AllByRecursion (λ (w : Workunit). w.class ≡ 0) ws → AllByRecursion (λ (w : Workunit). w.class ≡ 0) (filter (λ (w : Workunit). not (w.number == n)) ws)
      kept_of [] none = tt
      kept_of (w ∷ ws) none = elim (cases_Bool (w.number == n)) [ inl on ↦ rw on (kept_of ws none.1) | inr off ↦ rw off (none.0, kept_of ws none.1) ]

      carry : (q : ProjectTable) → falls_with_work q ≡ false → (rows : List Row) → Holds q rows world → Holds q rows (without_workunit n world)
      carry the_table.Workunit off rows h = absurd (cc)
      carry the_table.Result off rows h = absurd (cc)
      carry the_table.WorkunitClass off rows h = absurd (cc)
      carry _ off rows h = h

      child : (q : ProjectTable) (c : ℕ) → IsTableOf q world.version → child_column q ≡ Some c → Holds q (new.trees (s.trees q)) (without_workunit n world)
      child q c in_q is =
          let was = parts_hold old world s q in_q in
          subst (λ rows. Holds q rows (without_workunit n world)) (sym (child_left world.version old s.trees (parts_there old world s) new left children q c in_q is (child_shaped q c _ world is was))) (hold q c _ is was)

      fits : (q : ProjectTable) → IsTableOf q world.version → falls_with_work q ≡ true → Holds q (new.trees (s.trees q)) (without_workunit n world)
      fits the_table.Workunit in_q on = workunits
      fits the_table.Result in_q on = child the_table.Result 1 in_q refl
      fits the_table.WorkunitClass in_q on = child the_table.WorkunitClass 0 in_q refl
      fits _ in_q on = absurd (cc)
