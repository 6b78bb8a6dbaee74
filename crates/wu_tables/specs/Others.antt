-- When all that a schema has is a project's, by its name.
use Rattle.std.specs.Prelude.{◌≡◌, ◌⊎◌, ◌++◌, ℕ, List, [], codes}
use Rattle.sqlite.specs.Schema.{Schema}
use Rattle.sqlite.specs.Table.{Table}
use Rattle.sqlite_rules.specs.Lists.{Has}
use Rattle.sqlite_schema.specs.declared.schema.Index.{Index}
use Rattle.wu_schema.specs.Fresh.{project_names}

-- SQLite keeps the name for itself, as it does that of each index of a table's key.
abbrev pub IsReserved : List ℕ → Type 0
IsReserved name = (rest : List ℕ) × (name ≡ codes "sqlite_" ++ rest)

-- An index of a project may have the name: a new project gives it, or SQLite keeps it for itself.
abbrev pub IsIndexName : List ℕ → Type 0
IsIndexName name = Has project_names name ⊎ IsReserved name

-- Each table has a name that a new project gives.
abbrev pub AreProjectTables : List Table → Type 0
AreProjectTables tables = (table : Table) → Has tables table → Has project_names table.name

-- Each index has a name that one of a project may have.
abbrev pub AreProjectIndexes : List Index → Type 0
AreProjectIndexes indexes = (index : Index) → Has indexes index → IsIndexName index.name

-- All that the schema has is a project's, by its name; and it has no view.
pub record HasOnlyAProject (schema : Schema) : Type 0 where
  pub tables : AreProjectTables schema.tables
  pub indexes : AreProjectIndexes schema.indexes
  pub views : schema.views ≡ []
