-- Tables of other programs in the file of a project, and what leaves them as they are.
use Rattle.std.specs.Prelude.{◌≡◌, ◌≢◌, ℕ, List, [], ◌∷◌, ◌++◌}
use Rattle.std.specs.List.{AllByRecursion}
use Rattle.sqlite.specs.Effect.{Database}
use Rattle.sqlite.specs.Schema.{Schema}
use Rattle.sqlite.specs.Table.{Table}
use Rattle.sqlite_rules.specs.Lists.{Has}
use Rattle.wu_core.specs.World.{World}
use Rattle.wu_schema.specs.Made.{Named, names_of, project_tables, result_table, workunit_class_table, workunit_table}
use Rattle.wu_schema.specs.Queue.{queue_table}
use Rattle.wu_schema.specs.Refines.{Refines}
use Rattle.wu_schema.specs.Tables.{HasNamed, OwnsTree}

-- The names of a project's tables.
abbrev pub table_names : List (List ℕ)
table_names = names_of project_tables ++ queue_table.0 ∷ []

-- A table of another program: it has the name of none of a project's tables, a tree of its own, and no foreign key.
pub record IsOthers (schema : Schema) (t : Table) : Type 0 where
  pub there : Has schema.tables t
  pub name : AllByRecursion (λ name. t.name ≢ name) table_names
  pub owns : OwnsTree schema t
  pub bare : t.references ≡ []

-- Each table of another program is there as it was, with its rows.
abbrev pub SparesOthers : Database → Database → Type 0
SparesOthers old new = (t : Table) → IsOthers old.schema t → IsOthers new.schema t × (new.trees t.tree ≡ old.trees t.tree)

-- Each of these tables is there, in a tree of its own.
abbrev pub AreThere : Schema → List Named → Type 0
AreThere schema tables = AllByRecursion (λ (named : Named). (tree : ℕ) × HasNamed schema named.0 (named.1 tree)) tables

-- If these tables are there, no definition is changed, and the tables of other programs stay.
abbrev pub SparesWith : List Named → Database → Database → Type 0
SparesWith tables old new = AreThere old.schema tables → (new.schema ≡ old.schema) × SparesOthers old new

-- Likewise if this table is there.
abbrev pub Spares : Named → Database → Database → Type 0
Spares table old new = SparesWith (table ∷ []) old new

-- If the tables represent a world, the tables of other programs stay.
abbrev pub SparesBeside : Database → Database → Type 0
SparesBeside old new = (world : World) → Refines old world → SparesOthers old new

-- The tables in which a workunit of the present version has rows.
abbrev pub tables_of_workunits : List Named
tables_of_workunits = workunit_table ∷ result_table ∷ workunit_class_table ∷ queue_table ∷ []
