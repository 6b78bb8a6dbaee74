-- The question about each table, and what its answer shows.
use Rattle.std.specs.Prelude.{◌≡◌, ℕ, List, map}
use Rattle.std.specs.List.Sorted.{IsPermutation}
use Rattle.sqlite.specs.Order.{Row}
use Rattle.sqlite.specs.Tree.{Trees}
use Rattle.wu_schema.specs.ProjectTables.{ProjectTrees}
use Rattle.wu_loader.specs.Shown.{keyed, unkeyed}
use Rattle.wu_schema.specs.declared.table.ProjectTable.{ProjectTable}
use Rattle.wu_schema.specs.declared.table.ProjectTable.TheVariants as the_table
use Rattle.wu_loader.specs.declared.texts.TheConstants.{SELECT_ARCHIVE, SELECT_GRANTS, SELECT_HOSTS, SELECT_HOST_CLASSES, SELECT_IMPORTS, SELECT_PROJECT, SELECT_RESULTS, SELECT_WORKUNITS, SELECT_WORKUNIT_CLASSES}

-- The question for all rows of a table: in order of the key if that is the rowid, else in any order.
abbrev pub question : ProjectTable → List ℕ
question the_table.Project = SELECT_PROJECT.now
question the_table.Workunit = SELECT_WORKUNITS.now
question the_table.Result = SELECT_RESULTS.now
question the_table.Grant = SELECT_GRANTS.now
question the_table.Host = SELECT_HOSTS.now
question the_table.Archived = SELECT_ARCHIVE.now
question the_table.Import = SELECT_IMPORTS.now
question the_table.HostClass = SELECT_HOST_CLASSES.now
question the_table.WorkunitClass = SELECT_WORKUNIT_CLASSES.now

-- These rows are shown of the table.
abbrev pub ShowsTable : ProjectTable → Trees → ProjectTrees → List Row → Type 0
ShowsTable the_table.Project db trees rows = rows ≡ map (keyed 3) (db (trees the_table.Project))
ShowsTable the_table.Workunit db trees rows = rows ≡ map (keyed 15) (db (trees the_table.Workunit))
ShowsTable the_table.Result db trees rows = IsPermutation (map (unkeyed 11) (db (trees the_table.Result))) rows
ShowsTable the_table.Grant db trees rows = rows ≡ map (keyed 5) (db (trees the_table.Grant))
ShowsTable the_table.Host db trees rows = IsPermutation (map (unkeyed 3) (db (trees the_table.Host))) rows
ShowsTable the_table.Archived db trees rows = rows ≡ map (keyed 7) (db (trees the_table.Archived))
ShowsTable the_table.Import db trees rows = IsPermutation (map (unkeyed 6) (db (trees the_table.Import))) rows
ShowsTable the_table.HostClass db trees rows = IsPermutation (map (unkeyed 2) (db (trees the_table.HostClass))) rows
ShowsTable the_table.WorkunitClass db trees rows = rows ≡ map (keyed 2) (db (trees the_table.WorkunitClass))
