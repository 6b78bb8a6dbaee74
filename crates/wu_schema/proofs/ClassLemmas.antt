-- The tables of classes: made beside what was there, what stays of them beside a world of an older version, and the
-- version that has them.
use Rattle.wu_schema.proofs.Words.{AllByRecursion, Database, Enforced, Has, HasNamed, HasTables, HoldsAll, IsCalm, IsDatabase, IsPermutation-refl, List, ListsAll, ProjectTrees, PutsOne, Refines, Row, Schema, Table, Workunit, World, [], ap, arith, bytes_eq, cases_Bool, class_cells, class_row, codes, false, has_right, host_class_at, inl, inr, map, next_tree, put_row, refl, stored_class, stored_project, subst, sym, true, workunit_class_at, ℕ, ◌++◌, ◌∙◌, ◌∷◌, ◌≡◌, ◌≢◌}
use Rattle.wu_core.specs.declared.marks.Marks.{Marks}
use Rattle.wu_core.specs.declared.workunit.HostClass.{HostClass}
use Rattle.wu_schema.specs.Classes.{HasClassTables, MakesClasses, unbound_in}
use Rattle.wu_schema.specs.Made.{IsOurTable, MakesAll, class_tables, record_tables, work_tables}
use Rattle.wu_schema.specs.Queue.{HasQueue}
use Rattle.wu_schema.specs.Tables.{IsClassedVersion, queue_at}
use Rattle.wu_schema.proofs.BesideLemmas.{puts_beside}
use Rattle.wu_schema.proofs.MadeLemmas.{IsListed, all_add, all_grow, all_in, no_list}
use Rattle.wu_schema.proofs.Parts.{HasParts, Holds, Keeps, is_part, keeps_calm, rows_stand, same_part, table_of}
use Rattle.wu_schema.specs.declared.table.ProjectTable.{ProjectTable}
use Rattle.wu_schema.specs.declared.table.ProjectTable.TheVariants as the_table
use Rattle.wu_schema.specs.ProjectTables.{IsTableOf}
use Rattle.wu_schema.proofs.QueueLemmas.{queue_over, queue_still}
use Rattle.wu_schema.proofs.StandsLemmas.{but_one, is_there, lists_still}
use Rattle.wu_schema.proofs.StandsOver.{stands_over, tables_are}

-- they are tables of a project
ours : (t : Table) → IsListed class_tables t → IsOurTable t
ours t is = (is.0, is.1, has_right work_tables (record_tables ++ class_tables) is.0 (has_right record_tables class_tables is.0 is.2), is.3)

pub classes_are_made : (old new : Database) → MakesAll old new class_tables → MakesClasses old new
classes_are_made old new h =
    let grows = all_grow old new class_tables h in
    let made = all_in old new class_tables h in
    let adds = all_add old new class_tables h in
    let sound : IsDatabase new = subst IsDatabase (sym h.2.2) h.2.1.sound in
    record {
      classes = record { host_class = next_tree old.schema; workunit_class = next_tree h.0.schema; hosts = made.0.has; workunits = made.1.0.has; none = made.0.empty; rows = no_list _ made.1.0.empty };
      stands = λ world s. stands_over old new grows world s sound;
      queue = λ marked q. queue_over old new marked grows q;
      keeps = grows.keeps;
      adds = record {
        tables = λ t has. elim (adds.tables t has) [ inl before ↦ inl before | inr (inl listed) ↦ inr (inl (ours t listed)) | inr (inr counts) ↦ inr (inr counts) ];
        indexes = λ i has. elim (adds.indexes i has) [ inl before ↦ inl before | inr own ↦ inr (own.0, own.1, ours own.0 own.2, own.3) ];
      };
      sound = sound;
    }

-- ---- beside a world of an older version

-- no table that an older version has is called so
no_part : (version : ℕ) (t : ProjectTrees) → ¬ IsClassedVersion version → (p : ProjectTable) → IsTableOf p version → (bytes_eq (table_of t p).name (codes "host_class") ≡ false) × (bytes_eq (table_of t p).name (codes "workunit_class") ≡ false)
no_part version t older the_table.HostClass is_in = absurd (older is_in)
no_part version t older the_table.WorkunitClass is_in = absurd (older is_in)
no_part version t older the_table.Project is_in = (refl, refl)
no_part version t older _ is_in = (refl, refl)

-- a row that is put in leaves a queue
pub class_row_leaves : (old new : Database) (tree : ℕ) (has : HasNamed old.schema (codes "workunit_class") (workunit_class_at tree)) (row : Row) → PutsOne old new tree row → (marked : List (ℕ × Marks)) → HasQueue old marked → HasQueue new marked
class_row_leaves old new tree has row put marked q =
    let listed = is_there old.schema _ _ q.table in
    queue_still old new marked q put.schema (but_one old new tree row put (queue_at q.tree) listed (λ same. absurd (let one : queue_at q.tree ≡ workunit_class_at tree = has.2 (queue_at q.tree) listed same in let e : true ≡ false = ap (λ (t : Table). bytes_eq t.name (codes "workunit_class")) (sym one) in cc)))

module _ (old new : Database) (classed after : List (ℕ × ℕ)) (c : HasClassTables old classed) (p : ℕ × ℕ) (put : PutsOne old new c.workunit_class (class_row p)) where
  abbrev hosts : Table
  hosts = host_class_at c.host_class

  abbrev workunits : Table
  workunits = workunit_class_at c.workunit_class

  -- a row of a workunit's class is put in
  pub class_is_put : ListsAll (put_row (class_row p) (old.trees c.workunit_class)) (map class_row after) → HasClassTables new after
  class_is_put rows = record {
    host_class = c.host_class;
    workunit_class = c.workunit_class;
    hosts = subst (λ (s : Schema). HasNamed s (codes "host_class") hosts) (sym put.schema) c.hosts;
    workunits = subst (λ (s : Schema). HasNamed s (codes "workunit_class") workunits) (sym put.schema) c.workunits;
    none = but_one old new c.workunit_class (class_row p) put hosts (is_there old.schema _ _ c.hosts) (λ same. absurd (let one : hosts ≡ workunits = c.workunits.2 hosts (is_there old.schema _ _ c.hosts) same in let e : true ≡ false = ap (λ (t : Table). bytes_eq t.name (codes "workunit_class")) (sym one) in cc)) ∙ c.none;
    rows = lists_still put.rows rows;
  }

  -- and leaves a queue,
  pub class_leaves : (marked : List (ℕ × Marks)) → HasQueue old marked → HasQueue new marked
  class_leaves marked q = class_row_leaves old new c.workunit_class c.workunits (class_row p) put marked q

  -- and the world
  pub class_stands : (world : World) (s : Refines old world) → ¬ IsClassedVersion world.version → Refines new world
  class_stands world s older = puts_beside old world s workunits (record { listed = is_there old.schema _ _ c.workunits; owns = c.workunits.2; other = λ q is_in. (no_part world.version s.trees older q is_in).1 }) new (class_row p) put

-- ---- the version that has them

abbrev pub with_classes : World → World
with_classes world = record world { version = 3 }

unbound_rows : (ws : List Workunit) → AllByRecursion (λ (w : Workunit). w.class ≡ 0) ws → map class_row (map (λ (w : Workunit). (w.number, 0)) ws) ≡ map stored_class ws
unbound_rows [] none = refl
unbound_rows (w ∷ ws) none = λ i. class_row (w.number, sym none.0 i) ∷ unbound_rows ws none.1 i

module _ (old : Database) (world : World) (s : Refines old world) (older : ¬ IsClassedVersion world.version) (c : HasClassTables old (unbound_in world)) where
  abbrev trees : ProjectTrees
  trees the_table.HostClass = c.host_class
  trees the_table.WorkunitClass = c.workunit_class
  trees which = s.trees which

  there : HasParts 3 old.schema trees
  there the_table.Project is_in = (s.tables.each the_table.Project tt)
  there the_table.Workunit is_in = (s.tables.each the_table.Workunit tt)
  there the_table.Result is_in = (s.tables.each the_table.Result tt)
  there the_table.Grant is_in = (s.tables.each the_table.Grant tt)
  there the_table.Host is_in = (s.tables.each the_table.Host tt)
  there the_table.Archived is_in = (s.tables.each the_table.Archived tt)
  there the_table.Import is_in = (s.tables.each the_table.Import tt)
  there the_table.HostClass is_in = c.hosts
  there the_table.WorkunitClass is_in = c.workunits

  no_cells : HoldsAll (old.trees c.host_class) (map class_cells world.classes)
  no_cells =
      let empty : HoldsAll [] (map class_cells []) = record { shaped = (tt, tt); same = IsPermutation-refl [] } in
      subst (λ rows. HoldsAll rows (map class_cells world.classes)) (sym c.none) (subst (λ (cs : List HostClass). HoldsAll [] (map class_cells cs)) (sym (s.rows.classless older).hosts) empty)

  -- but for the row of the project, the rows are those of the world at that version
  held : (p : ProjectTable) → is_part the_table.Project p ≡ false → Holds p (old.trees (trees p)) (with_classes world)
  held the_table.Project off = absurd (cc)
  held the_table.Workunit off = s.rows.workunits
  held the_table.Result off = s.rows.instances
  held the_table.Grant off = s.rows.grants
  held the_table.Host off = s.rows.hosts
  held the_table.Archived off = s.rows.archived
  held the_table.Import off = (s.rows.imports, s.rows.imported_once, s.rows.imports_kept)
  held the_table.HostClass off = (no_cells, s.rows.classes_in_order)
  held the_table.WorkunitClass off = subst (ListsAll (old.trees c.workunit_class)) (unbound_rows world.workunits (s.rows.classless older).workunits) c.rows

  module _ (new : Database) (same : new.schema ≡ old.schema) (is : new.trees (s.trees the_table.Project) ≡ stored_project (with_classes world) ∷ [])
      (others : (t : Table) → Has old.schema.tables t → t.tree ≢ (s.trees the_table.Project) → IsCalm old.schema Enforced t (s.trees the_table.Project) → new.trees t.tree ≡ old.trees t.tree) (sound : IsDatabase new) where
    keeps : Keeps 3 trees old new (is_part the_table.Project)
    keeps = keeps_calm 3 old trees there new the_table.Project tt refl others

    now_held : (p : ProjectTable) → IsTableOf p 3 → Holds p (new.trees (trees p)) (with_classes world)
    now_held p is_in = elim (cases_Bool (is_part the_table.Project p)) [
      | inl on ↦ subst (λ q. Holds q (new.trees (trees q)) (with_classes world)) (same_part the_table.Project p on) is
      | inr off ↦ subst (λ rows. Holds p rows (with_classes world)) (sym (keeps p is_in off)) (held p off)
    ]

    -- where no host has a class and each workunit has class 0, the version set to 3 makes them stand for the same world at
    -- that version
    pub stands_with_classes : Refines new (with_classes world)
    stands_with_classes = record {
      trees = trees;
      tables = subst (λ (x : Schema). HasTables 3 x trees) (sym same) (tables_are 3 old.schema trees there s.tables.by_bytes);
      rows = rows_stand new trees (with_classes world) now_held (λ off. absurd (off (omega arith)));
      sound = sound;
    }
