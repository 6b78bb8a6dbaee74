-- When a database represents a world: the tables are there, and their rows are what the world holds.
use Rattle.std.specs.Prelude.{◌≡◌, false, ℕ, List, [], ◌∷◌, map, drop, None}
use Rattle.std.specs.List.{AllByRecursion, enumerate_from, flat_map}
use Rattle.std.specs.List.Sorted.{IsPermutation}
use Rattle.sqlite.specs.Order.{Row}
use Rattle.sqlite.specs.Tree.{IsAscending, Trees}
use Rattle.sqlite.specs.Schema.{Schema}
use Rattle.sqlite.specs.Effect.{Database, IsDatabase}
use Rattle.sqlite_trees.specs.View.{IsShaped}
use Rattle.sqlite_trees.specs.declared.store.Shape.TheVariants as shape
use Rattle.sqlite_schema.specs.Names.{table_named, index_named, view_named}
use Rattle.wu_core.specs.declared.workunit.Grant.{Grant}
use Rattle.wu_core.specs.declared.workunit.Instance.{Instance}
use Rattle.wu_core.specs.declared.workunit.Workunit.{Workunit}
use Rattle.wu_core.specs.Classes.{AreInOrder}
use Rattle.wu_core.specs.Hosts.{credit_of, grants_of, hosts_of}
use Rattle.wu_core.specs.World.{World, Import, is_import, MayBeKept}
use Rattle.wu_schema.specs.Stored.{stored_project, stored_workunit, stored_grant, stored_archived, stored_class, class_cells, instance_cells, host_cells, import_cells}
use Rattle.wu_schema.specs.Tables.{IsClassedVersion}
use Rattle.wu_schema.specs.ProjectTables.{HasTables, ProjectTrees}
use Rattle.wu_schema.specs.declared.table.ProjectTable.TheVariants as the_table

-- The rows of a workunit's instances, numbered from 0.
abbrev pub instances_of : Workunit → List Row
instances_of w = map (λ (p : ℕ × Instance). instance_cells w.number p.0 p.1) (enumerate_from 0 w.instances)

-- The row of a host, with the credit and the number of its grants.
abbrev pub host_of : List Grant → List ℕ → Row
host_of grants name = host_cells name (credit_of grants name) (grants_of grants name)

-- The rows of a table whose key is the rowid are these, in order of the key.
pub record ListsAll (rows stored : List Row) : Type 0 where
  pub shaped : IsShaped shape.Table rows
  pub same : rows ≡ stored

-- The rows of a table whose rowids the store chooses are these cells after the rowids, in some order.
pub record HoldsAll (rows cells : List Row) : Type 0 where
  pub shaped : IsShaped shape.Table rows
  pub same : IsPermutation cells (map (drop 1) rows)

-- The rows of the tables of classes are what the world holds.
pub record HasClasses (db : Trees) (trees : ProjectTrees) (world : World) : Type 0 where
  pub hosts : HoldsAll (db (trees the_table.HostClass)) (map class_cells world.classes)
  pub workunits : ListsAll (db (trees the_table.WorkunitClass)) (map stored_class world.workunits)

-- No host and no workunit has a class.
pub record LacksClasses (world : World) : Type 0 where
  pub hosts : world.classes ≡ []
  pub workunits : AllByRecursion (λ (w : Workunit). w.class ≡ 0) world.workunits

-- The rows of the tables are what the world holds, except those of the queue.
pub record HasRows (db : Trees) (trees : ProjectTrees) (world : World) : Type 0 where
  pub project : db (trees the_table.Project) ≡ stored_project world ∷ []
  pub workunits : ListsAll (db (trees the_table.Workunit)) (map stored_workunit world.workunits)
  pub instances : HoldsAll (db (trees the_table.Result)) (flat_map instances_of world.workunits)
  pub grants : ListsAll (db (trees the_table.Grant)) (map stored_grant (enumerate_from 1 world.grants))
  pub hosts : HoldsAll (db (trees the_table.Host)) (map (host_of world.grants) (hosts_of world.grants))
  pub archived : ListsAll (db (trees the_table.Archived)) (map stored_archived (enumerate_from 1 world.archived))
  pub imports : HoldsAll (db (trees the_table.Import)) (map import_cells world.imports)
  -- No two imports have the same kind and name.
  pub imported_once : IsAscending (λ (a b : Import). is_import a.kind a.name b ≡ false) world.imports
  pub imports_kept : AllByRecursion MayBeKept world.imports
  -- From version 3 on, classes are in tables of their own; before it no host and no workunit has a class.
  pub classes : IsClassedVersion world.version → HasClasses db trees world
  pub classless : ¬ IsClassedVersion world.version → LacksClasses world
  pub classes_in_order : AreInOrder world.classes

-- The tables are there, wherever the store put them and whatever else is there, and their rows are what the world
-- holds.
pub record Refines (db : Database) (world : World) : Type 0 where
  pub trees : ProjectTrees
  pub tables : HasTables world.version db.schema trees
  pub rows : HasRows db.trees trees world
  -- The trees list the schema and obey it, so that opening these trees finds this database.
  pub sound : IsDatabase db

-- Nothing has this name.
pub record IsFree (schema : Schema) (name : List ℕ) : Type 0 where
  pub table : table_named schema name ≡ None
  pub index : index_named schema name ≡ None
  pub view : view_named schema name ≡ None
