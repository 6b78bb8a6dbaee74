-- What a question about a whole table shows of its rows, and which rows it shows as they are.
use Rattle.std.specs.Prelude.{◌≡◌, ℕ, ◌+◌, ◌-◌, List, [], ◌∷◌, map, length, MatchOption}
use Rattle.std.specs.List.{AllByRecursion, range_with_len}
use Rattle.std.specs.List.Sorted.{IsPermutation}
use Rattle.sqlite.specs.Order.{Row, column}
use Rattle.sqlite.specs.Tree.{Trees}
use Rattle.sqlite.specs.declared.types.Value.TheVariants.{Null}
use Rattle.sqlite_trees.specs.View.{IsShaped}
use Rattle.sqlite_trees.specs.declared.store.Shape.TheVariants as shape
use Rattle.wu_schema.specs.ProjectTables.{IsTableOf, ProjectTrees}
use Rattle.wu_schema.specs.Tables.{IsClassedVersion}
use Rattle.wu_schema.specs.declared.table.ProjectTable.{ProjectTable}
use Rattle.wu_loader.specs.declared.tables.ClassRows.{ClassRows}
use Rattle.wu_loader.specs.declared.tables.PlainRows.{PlainRows}
use Rattle.wu_loader.specs.declared.tables.TableRows.{TableRows}
use Rattle.wu_schema.specs.declared.table.ProjectTable.TheVariants as the_table

-- The row of a table with so many columns whose key is the rowid: its key, and the columns after the key's own.
abbrev pub keyed : ℕ → Row → Row
keyed count row = column row 0 ∷ map (column row) (range_with_len 2 (count - 1))

-- The row of a table whose rowids the store chooses: its columns, after the rowid.
abbrev pub unkeyed : ℕ → Row → Row
unkeyed count row = map (column row) (range_with_len 1 count)

-- The row as a table keeps it whose key is the rowid: the key first, and NULL in the key's own column.
abbrev pub behind_key : Row → Row
behind_key [] = []
behind_key (key ∷ cells) = key ∷ Null ∷ cells

-- The rows are in order of their rowids, as every store keeps those of a table.
abbrev pub IsArranged : List Row → Type 0
IsArranged rows = IsShaped shape.Table rows

-- The rows of each table of this version are in order of their rowids.
abbrev pub AreArranged : ℕ → Trees → ProjectTrees → Type 0
AreArranged version db trees = (table : ProjectTable) → IsTableOf table version → IsArranged (db (trees table))

-- Each row has a cell for its rowid and one for each of so many columns. A question shows a missing last cell as NULL,
-- so it cannot report that one is missing.
abbrev pub AreWhole : ℕ → List Row → Type 0
AreWhole count rows = AllByRecursion (λ row. length row ≡ count + 1) rows

-- The rows that are shown of the tables of every version: in order of the key if that is the rowid, else in any order.
pub record ShowsPlain (db : Trees) (trees : ProjectTrees) (rows : PlainRows) : Type 0 where
  pub project : rows.project.items ≡ map (keyed 3) (db (trees the_table.Project))
  pub workunits : rows.workunits ≡ map (keyed 15) (db (trees the_table.Workunit))
  pub instances : IsPermutation (map (unkeyed 11) (db (trees the_table.Result))) rows.instances
  pub grants : rows.grants ≡ map (keyed 5) (db (trees the_table.Grant))
  pub hosts : IsPermutation (map (unkeyed 3) (db (trees the_table.Host))) rows.hosts
  pub archived : rows.archived ≡ map (keyed 7) (db (trees the_table.Archived))
  pub imports : IsPermutation (map (unkeyed 6) (db (trees the_table.Import))) rows.imports

-- The rows that are shown of the tables of classes.
pub record ShowsClasses (db : Trees) (trees : ProjectTrees) (rows : ClassRows) : Type 0 where
  pub hosts : IsPermutation (map (unkeyed 2) (db (trees the_table.HostClass))) rows.hosts
  pub workunits : rows.workunits ≡ map (keyed 2) (db (trees the_table.WorkunitClass))

-- The rows that are shown of the tables of this version; before version 3 there are no tables of classes.
pub record ShowsTables (version : ℕ) (db : Trees) (trees : ProjectTrees) (rows : TableRows) : Type 0 where
  pub plain : ShowsPlain db trees rows.plain
  pub classes : MatchOption rows.classes (¬ IsClassedVersion version) (λ classes. IsClassedVersion version × ShowsClasses db trees classes)
