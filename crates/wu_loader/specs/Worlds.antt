-- When the shown rows are those of a world, and which worlds have values that rows may have.
use Rattle.std.specs.Prelude.{◌≡◌, ◌<◌, ℕ, List, [], ◌∷◌, map, All, MatchOption, Option}
use Rattle.wu_store.specs.Loading.{classless}
use Rattle.std.specs.List.{flat_map}
use Rattle.std.specs.List.Sorted.{IsPermutation}
use Rattle.sqlite.specs.Order.{Row}
use Rattle.sqlite.specs.Tree.{IsAscending}
use Rattle.wu_core.specs.Classes.{AreInOrder}
use Rattle.wu_core.specs.Hosts.{hosts_of}
use Rattle.wu_core.specs.Storable.{AreStorable, AreVerdicts, IsArchiveStorable, IsName}
use Rattle.wu_core.specs.World.{MayBeKept, World}
use Rattle.wu_core.specs.declared.workunit.Workunit.{Workunit}
use Rattle.wu_schema.specs.Refines.{LacksClasses, host_of, instances_of}
use Rattle.wu_schema.specs.Stored.{class_cells, import_cells, workunit_row}
use Rattle.wu_loader.specs.Rows.{archived_row_at, classed_of, classed_row, grant_row, project_row_of, IsStoredGrant, IsStoredProject}
use Rattle.wu_schema.specs.Reading.{IsStoredHostClass}
use Rattle.wu_loader.specs.Whole.{rows_of}
use Rattle.wu_loader.specs.declared.rows.ProjectRow.{ProjectRow}
use Rattle.wu_loader.specs.declared.tables.ClassRows.{ClassRows}
use Rattle.wu_loader.specs.declared.tables.PlainRows.{PlainRows}
use Rattle.wu_loader.specs.declared.tables.TableRows.{TableRows}
use Rattle.wu_loader.specs.declared.world.Plain.{Plain}
use Rattle.wu_loader.specs.declared.world.WithClasses.{WithClasses}

abbrev pub project_of : World → ProjectRow
project_of world = record { version = world.version; next_number = world.next_number }

-- The workunits are in order of their numbers.
abbrev pub IsOrdered : List Workunit → Type 0
IsOrdered workunits = IsAscending (λ (one other : Workunit). one.number < other.number) workunits

-- The rows of the tables that every version has are what the world holds.
pub record ArePlainRowsOf (rows : PlainRows) (world : World) : Type 0 where
  pub project : rows.project.items ≡ project_row_of (project_of world) ∷ []
  pub workunits : rows.workunits ≡ map workunit_row world.workunits
  pub instances : IsPermutation (flat_map instances_of world.workunits) rows.instances
  pub grants : rows.grants ≡ rows_of grant_row world.grants
  pub hosts : IsPermutation (map (host_of world.grants) (hosts_of world.grants)) rows.hosts
  pub archived : rows.archived ≡ rows_of archived_row_at world.archived
  pub imports : IsPermutation (map import_cells world.imports) rows.imports
  pub imports_kept : All MayBeKept world.imports

-- The rows of the tables of classes are what the world holds.
pub record AreClassRowsOf (rows : ClassRows) (world : World) : Type 0 where
  pub hosts : IsPermutation (map class_cells world.classes) rows.hosts
  pub workunits : rows.workunits ≡ map classed_row (map classed_of world.workunits)

-- The rows of the tables of classes are what the world holds; without these tables it has no classes.
abbrev pub AreAnyClassRowsOf : Option ClassRows → World → Type 0
AreAnyClassRowsOf rows world = MatchOption rows (LacksClasses world) (λ classes. AreClassRowsOf classes world)

-- The rows are what the world holds, and it is of this version.
pub record AreRowsOf (told : ℕ) (rows : TableRows) (world : World) : Type 0 where
  pub plain : ArePlainRowsOf rows.plain world
  pub classes : AreAnyClassRowsOf rows.classes world
  pub in_order : AreInOrder world.classes
  pub version : world.version ≡ told

-- Each value of the world is in the range that rows are read with.
pub record IsReadable (world : World) : Type 0 where
  pub project : IsStoredProject (project_of world)
  pub workunits : AreStorable world
  pub grants : All IsStoredGrant world.grants
  pub archived : IsArchiveStorable world
  pub imports : All (λ import. IsName import.name × AreVerdicts import.kind import.verdicts) world.imports
  pub classes : All IsStoredHostClass world.classes

-- The rows of workunits and of instances are those of these workunits.
pub record AreRowsOfWorks (rows instances : List Row) (workunits : List Workunit) : Type 0 where
  pub workunits_are : rows ≡ map workunit_row workunits
  pub instances_are : IsPermutation (flat_map instances_of workunits) instances

-- The world that was read of the tables of every version, without classes of hosts.
abbrev pub plain_world : Plain → World
plain_world plain = record {
  workunits = plain.workunits.items;
  grants = plain.grants.items;
  archived = plain.archived.items;
  imports = plain.imports.items;
  classes = [];
  next_number = plain.project.next_number;
  version = plain.project.version;
}

-- These are the workunits with their classes, and the hosts with theirs, as the rows give them.
pub record HasClassesOf (workunits : List Workunit) (rows : Option ClassRows) (found : WithClasses) : Type 0 where
  pub same : map classless found.workunits.items ≡ map classless workunits
  pub classes : (world : World) → world.workunits ≡ found.workunits.items → world.classes ≡ found.hosts.items → AreAnyClassRowsOf rows world
  pub in_order : AreInOrder found.hosts.items
