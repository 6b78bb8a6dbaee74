-- Which row of a table is the first that is wrong: it is missing, or is not a row of a project. If a row is that of no
-- value, the first such row is meant; else the first that does not fit the others.
use Rattle.std.specs.Prelude.{◌≡◌, ◌≢◌, ◌⊎◌, ℕ, ◌-◌, ◌≤◌, List, [], ◌∷◌, length, map, MatchOption, Option, Some, slice_get, take}
use Rattle.sqlite.specs.Order.{Row, column}
use Rattle.sqlite.specs.declared.types.Value.{Value}
use Rattle.wu_core.specs.Storable.{IsStoredArchived, IsStoredWorkunit}
use Rattle.wu_core.specs.declared.workunit.Grant.{Grant}
use Rattle.wu_core.specs.declared.workunit.HostClass.{HostClass}
use Rattle.wu_core.specs.declared.workunit.Workunit.{Workunit}
use Rattle.wu_schema.specs.Stored.{class_cells, import_cells, workunit_row}
use Rattle.wu_loader.specs.Classing.{by_classed_host}
use Rattle.wu_loader.specs.Dealing.{by_place, AreDealt}
use Rattle.wu_loader.specs.Granting.{by_name, IsWrongHost}
use Rattle.wu_loader.specs.Rows.{archived_row_at, classed_row, grant_row, placed_row, project_row_of, IsStoredClass, IsStoredGrant, IsStoredImport, IsStoredPlaced, IsStoredProject}
use Rattle.wu_schema.specs.Reading.{host_row, IsStoredHost, IsStoredHostClass}
use Rattle.wu_loader.specs.Whole.{rows_of, AreOfValues, AreSorted, DiffersAt, IsIn, IsNoRow, IsNotAbove}
use Rattle.wu_loader.specs.Worlds.{IsOrdered}
use Rattle.wu_schema.specs.declared.table.ProjectTable.{ProjectTable}
use Rattle.wu_schema.specs.declared.table.ProjectTable.TheVariants as the_table
use Rattle.wu_loader.specs.declared.finding.WrongRow as told
use Rattle.wu_schema.specs.declared.rows.HostSum.{HostSum}
use Rattle.wu_loader.specs.declared.rows.Placed.{Placed}
use Rattle.wu_loader.specs.declared.rows.ProjectRow.{ProjectRow}
use Rattle.wu_loader.specs.declared.tables.ClassRows.{ClassRows}
use Rattle.wu_loader.specs.declared.tables.PlainRows.{PlainRows}
use Rattle.wu_loader.specs.declared.tables.TableRows.{TableRows}

-- ---- the project

-- The first row is not that of a project.
abbrev pub LacksProjectRow : List Row → Type 0
LacksProjectRow rows = (project : ProjectRow) → IsStoredProject project → slice_get rows 0 ≢ Some (project_row_of project)

-- At this place the row is first not what a project has there: it is another, missing, or a second one.
pub record IsNoProject (rows : List Row) (place : ℕ) : Type 0 where
  pub counted : 1 ≤ place
  pub wanted : ProjectRow
  pub stored : IsStoredProject wanted
  pub before : take (place - 1) rows ≡ take (place - 1) (project_row_of wanted ∷ [])
  pub other : (project : ProjectRow) → IsStoredProject project → slice_get rows (place - 1) ≢ slice_get (project_row_of project ∷ []) (place - 1)

-- The one row is that of a project of another version.
pub record IsOfOtherVersion (version : ℕ) (rows : List Row) (place : ℕ) : Type 0 where
  pub first : place ≡ 1
  pub project : ProjectRow
  pub rows_are : rows ≡ project_row_of project ∷ []
  pub stored : IsStoredProject project
  pub other : project.version ≢ version

abbrev pub IsWrongProject : ℕ → List Row → ℕ → Type 0
IsWrongProject version rows place = IsNoProject rows place ⊎ IsOfOtherVersion version rows place

-- ---- results

-- The instances before this place are all those of the workunits, up to there, and with the instance at this place they
-- are not.
pub record IsUndealtAt (workunits : List Workunit) (placed : List Placed) (place : ℕ) : Type 0 where
  pub counted : 1 ≤ place
  pub there : place ≤ length placed
  pub before : List Workunit
  pub dealt : AreDealt workunits (take (place - 1) placed) before
  pub none : (dealt : List Workunit) → IsOrdered dealt → ¬ AreDealt workunits (take place placed) dealt

-- In order of workunit and number, this row is the first that is not among a workunit's instances.
pub record IsUndealtRow (works rows : List Row) (place : ℕ) : Type 0 where
  pub workunits : List Workunit
  pub rows_are : works ≡ map workunit_row workunits
  pub placed : List Placed
  pub read : AreSorted placed_row IsStoredPlaced by_place rows placed
  pub undealt : IsUndealtAt workunits placed place

abbrev pub IsWrongResult : (works rows : List Row) → ℕ → Type 0
IsWrongResult works rows place = IsNoRow (λ _. placed_row) IsStoredPlaced rows place ⊎ IsUndealtRow works rows place

-- Each row is that of a workunit.
abbrev pub AreWorkunits : List Row → Type 0
AreWorkunits rows = AreOfValues (λ _. workunit_row) IsStoredWorkunit rows

-- The wrong row that is reported is one of workunits; or, where none of these is wrong, one of results.
abbrev pub IsWrongWork : (works rows : List Row) → told.WrongRow → Type 0
IsWrongWork works rows wrong = IsIn the_table.Workunit (IsNoRow (λ _. workunit_row) IsStoredWorkunit works) wrong ⊎ (AreWorkunits works × IsIn the_table.Result (IsWrongResult works rows) wrong)

-- ---- hosts

-- In order of name, these are not the hosts of the grants: first for the row at this place, or because one is missing
-- after the last.
pub record IsOtherHost (grants : List Grant) (rows : List Row) (place : ℕ) : Type 0 where
  pub hosts : List HostSum
  pub read : AreSorted host_row IsStoredHost by_name rows hosts
  pub counted : 1 ≤ place
  pub wrong : IsWrongHost grants hosts (place - 1)

abbrev pub IsWrongHostRow : List Grant → List Row → ℕ → Type 0
IsWrongHostRow grants rows place = IsNoRow (λ _. host_row) IsStoredHost rows place ⊎ IsOtherHost grants rows place

-- The row of a host is wrong, given the rows of the grants.
pub record IsWrongHostBeside (given rows : List Row) (place : ℕ) : Type 0 where
  pub grants : List Grant
  pub rows_are : given ≡ rows_of grant_row grants
  pub wrong : IsWrongHostRow grants rows place

-- ---- classes

-- In order of host, this row is the first whose host is not above that of the row before it.
pub record StandsTwice (rows : List Row) (place : ℕ) : Type 0 where
  pub classes : List HostClass
  pub read : AreSorted class_cells IsStoredHostClass by_classed_host rows classes
  pub counted : 1 ≤ place
  pub twice : IsNotAbove by_classed_host classes (place - 1)

abbrev pub IsWrongHostClass : List Row → ℕ → Type 0
IsWrongHostClass rows place = IsNoRow (λ _. class_cells) IsStoredHostClass rows place ⊎ StandsTwice rows place

-- The keys of rows, which are in their first column.
abbrev pub keys : List Row → List Value
keys rows = map (λ (row : Row). column row 0) rows

-- The row is that of no class; or each is that of one, and this one is the first whose key differs from that of the
-- workunit's row at its place.
abbrev pub IsWrongWorkunitClass : (works rows : List Row) → ℕ → Type 0
IsWrongWorkunitClass works rows place =
    IsNoRow (λ _. classed_row) IsStoredClass rows place ⊎ (AreOfValues (λ _. classed_row) IsStoredClass rows × DiffersAt (keys works) (keys rows) place)

-- ---- all tables

-- The row at this place is the first wrong one of a table that every version has.
abbrev pub IsWrongPlainAt : ℕ → PlainRows → ProjectTable → ℕ → Type 0
IsWrongPlainAt version rows the_table.Project place = IsWrongProject version rows.project.items place
IsWrongPlainAt version rows the_table.Workunit place = IsNoRow (λ _. workunit_row) IsStoredWorkunit rows.workunits place
IsWrongPlainAt version rows the_table.Result place = IsWrongResult rows.workunits rows.instances place
IsWrongPlainAt version rows the_table.Grant place = IsNoRow grant_row IsStoredGrant rows.grants place
IsWrongPlainAt version rows the_table.Host place = IsWrongHostBeside rows.grants rows.hosts place
IsWrongPlainAt version rows the_table.Archived place = IsNoRow archived_row_at IsStoredArchived rows.archived place
IsWrongPlainAt version rows the_table.Import place = IsNoRow (λ _. import_cells) IsStoredImport rows.imports place
IsWrongPlainAt version rows _ place = ⊥

abbrev pub IsWrongPlain : ℕ → PlainRows → told.WrongRow → Type 0
IsWrongPlain version rows wrong = IsWrongPlainAt version rows wrong.table wrong.place

-- The row at this place is the first wrong one of a table of classes, given the rows of the workunits.
abbrev pub IsWrongClassAt : List Row → ClassRows → ProjectTable → ℕ → Type 0
IsWrongClassAt works rows the_table.HostClass place = IsWrongHostClass rows.hosts place
IsWrongClassAt works rows the_table.WorkunitClass place = IsWrongWorkunitClass works rows.workunits place
IsWrongClassAt works rows _ place = ⊥

abbrev pub IsWrongClass : List Row → Option ClassRows → told.WrongRow → Type 0
IsWrongClass works rows wrong = MatchOption rows ⊥ (λ classes. IsWrongClassAt works classes wrong.table wrong.place)

-- The reported row is the first wrong one of its table, in a project of this version.
abbrev pub IsWrongRow : ℕ → TableRows → told.WrongRow → Type 0
IsWrongRow version rows wrong = IsWrongPlain version rows.plain wrong ⊎ IsWrongClass rows.plain.workunits rows.classes wrong
