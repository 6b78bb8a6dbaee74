-- Which wrong row is the first in the written order: no table before its own has a wrong row.
use Rattle.std.specs.Prelude.{◌≡◌, ◌<◌, ◌≤◌, ℕ, All, List, [], ◌∷◌, length, map, MatchOption, Option, ⊤}
use Rattle.std.specs.List.Sorted.{IsPermutation}
use Rattle.sqlite.specs.Order.{Row}
use Rattle.wu_core.specs.Classes.{AreInOrder}
use Rattle.wu_core.specs.Hosts.{hosts_of}
use Rattle.wu_core.specs.Limits.{most_instances}
use Rattle.wu_core.specs.Storable.{IsStoredArchived}
use Rattle.wu_core.specs.declared.workunit.Grant.{Grant}
use Rattle.wu_core.specs.declared.workunit.HostClass.{HostClass}
use Rattle.wu_core.specs.declared.workunit.Workunit.{Workunit}
use Rattle.wu_schema.specs.Refines.{host_of}
use Rattle.wu_schema.specs.Stored.{class_cells, import_cells}
use Rattle.wu_loader.specs.Rows.{archived_row_at, grant_row, placed_row, project_row_of, IsStoredGrant, IsStoredImport, IsStoredPlaced, IsStoredProject}
use Rattle.wu_schema.specs.Reading.{IsStoredHostClass}
use Rattle.wu_loader.specs.Whole.{rows_of, AreOfValues}
use Rattle.wu_loader.specs.Worlds.{AreRowsOfWorks}
use Rattle.wu_loader.specs.Wrongs.{AreWorkunits, IsWrongClass, IsWrongPlain, IsWrongRow}
use Rattle.wu_schema.specs.ProjectTables.{rank}
use Rattle.wu_schema.specs.declared.table.ProjectTable.{ProjectTable}
use Rattle.wu_schema.specs.declared.table.ProjectTable.TheVariants as the_table
use Rattle.wu_loader.specs.declared.finding.WrongRow as told
use Rattle.wu_loader.specs.declared.rows.ProjectRow.{ProjectRow}
use Rattle.wu_loader.specs.declared.tables.ClassRows.{ClassRows}
use Rattle.wu_loader.specs.declared.tables.PlainRows.{PlainRows}
use Rattle.wu_loader.specs.declared.tables.TableRows.{TableRows}

-- ---- tables without a wrong row

-- The one row is that of a project of this version.
pub record AreProjectRows (version : ℕ) (rows : List Row) : Type 0 where
  pub project : ProjectRow
  pub stored : IsStoredProject project
  pub is : project.version ≡ version
  pub rows_are : rows ≡ project_row_of project ∷ []

-- The rows of results are those of the instances of the workunits of these rows; a workunit has at most 100.
pub record AreResults (works rows : List Row) : Type 0 where
  pub values : AreOfValues (λ _. placed_row) IsStoredPlaced rows
  pub workunits : List Workunit
  pub rows_are : AreRowsOfWorks works rows workunits
  pub few : All (λ (w : Workunit). length w.instances ≤ most_instances) workunits

-- The rows of hosts are those of the hosts of the grants of these rows, with their sums.
pub record AreHostsOf (given rows : List Row) : Type 0 where
  pub grants : List Grant
  pub rows_are : given ≡ rows_of grant_row grants
  pub hosts : IsPermutation (map (host_of grants) (hosts_of grants)) rows

-- The rows are those of hosts with their classes, each host once.
pub record AreHostClasses (rows : List Row) : Type 0 where
  pub classes : List HostClass
  pub stored : All IsStoredHostClass classes
  pub same : IsPermutation (map class_cells classes) rows
  pub in_order : AreInOrder classes

-- No row of this table, which every version has, is wrong or missing.
abbrev pub IsRightPlain : ℕ → PlainRows → ProjectTable → Type 0
IsRightPlain version rows the_table.Project = AreProjectRows version rows.project.items
IsRightPlain version rows the_table.Workunit = AreWorkunits rows.workunits
IsRightPlain version rows the_table.Result = AreResults rows.workunits rows.instances
IsRightPlain version rows the_table.Grant = AreOfValues grant_row IsStoredGrant rows.grants
IsRightPlain version rows the_table.Host = AreHostsOf rows.grants rows.hosts
IsRightPlain version rows the_table.Archived = AreOfValues archived_row_at IsStoredArchived rows.archived
IsRightPlain version rows the_table.Import = AreOfValues (λ _. import_cells) IsStoredImport rows.imports
IsRightPlain version rows _ = ⊤

-- No row of the classes of hosts is wrong. No table comes behind the classes of workunits.
abbrev pub IsRightClass : ClassRows → ProjectTable → Type 0
IsRightClass rows the_table.HostClass = AreHostClasses rows.hosts
IsRightClass rows _ = ⊤

abbrev pub IsRightOfClasses : Option ClassRows → ProjectTable → Type 0
IsRightOfClasses rows which = MatchOption rows ⊤ (λ classes. IsRightClass classes which)

-- ---- the first

-- Each table that every version has and whose place is below this one is right.
abbrev pub AreRightBefore : ℕ → PlainRows → ℕ → Type 0
AreRightBefore version rows place = (which : ProjectTable) → rank which < place → IsRightPlain version rows which

-- This row is the first that is wrong in the tables that every version has.
pub record IsFirstPlain (version : ℕ) (rows : PlainRows) (wrong : told.WrongRow) : Type 0 where
  pub wrong_row : IsWrongPlain version rows wrong
  pub before : AreRightBefore version rows (rank wrong.table)

-- This row is the first that is wrong in the tables of classes.
pub record IsFirstClass (works : List Row) (rows : Option ClassRows) (wrong : told.WrongRow) : Type 0 where
  pub wrong_row : IsWrongClass works rows wrong
  pub before : (which : ProjectTable) → rank which < rank wrong.table → IsRightOfClasses rows which

-- This row is the first that is wrong in a project of this version: the first of its table, and no table before has a
-- wrong row.
pub record IsFirstWrong (version : ℕ) (rows : TableRows) (wrong : told.WrongRow) : Type 0 where
  pub wrong_row : IsWrongRow version rows wrong
  pub plain : AreRightBefore version rows.plain (rank wrong.table)
  pub classes : (which : ProjectTable) → rank which < rank wrong.table → IsRightOfClasses rows.classes which
