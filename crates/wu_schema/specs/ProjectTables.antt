-- The tables of a project, except the queue.
use Rattle.std.specs.Prelude.{◌≡◌, ℕ, List, [], ◌∷◌, codes, true, ⊤}
use Rattle.sqlite.specs.Collation.TheVariants.{Binary}
use Rattle.sqlite.specs.Schema.{Schema}
use Rattle.sqlite.specs.Table.{Table}
use Rattle.sqlite_rules.specs.Lists.{Has}
use Rattle.sqlite_schema.specs.Rules.{guards}
use Rattle.sqlite_schema.specs.declared.schema.Index.{Index}
use Rattle.sqlite_value.specs.Keys.{first_key}
use Rattle.wu_schema.specs.Tables.{HasNamed, IsClassedVersion, archived_at, grant_at, host_at, host_class_at, import_at, project_at, result_at, workunit_at, workunit_class_at}
use Rattle.wu_schema.specs.declared.table.ProjectTable.{ProjectTable}
use Rattle.wu_schema.specs.declared.table.ProjectTable.TheVariants.{Project, Workunit, Result, Grant, Host, Archived, Import, HostClass, WorkunitClass}

-- The name of the table.
abbrev pub table_name : ProjectTable → List ℕ
table_name Project = codes "project"
table_name Workunit = codes "workunit"
table_name Result = codes "result"
table_name Grant = codes "credit_grant"
table_name Host = codes "host"
table_name Archived = codes "archived"
table_name Import = codes "import"
table_name HostClass = codes "host_class"
table_name WorkunitClass = codes "workunit_class"

-- The table in any tree.
abbrev pub table_at : ProjectTable → ℕ → Table
table_at Project = project_at
table_at Workunit = workunit_at
table_at Result = result_at
table_at Grant = grant_at
table_at Host = host_at
table_at Archived = archived_at
table_at Import = import_at
table_at HostClass = host_class_at
table_at WorkunitClass = workunit_class_at

-- The tree in which the store put each table.
abbrev pub ProjectTrees : Type 0
ProjectTrees = ProjectTable → ℕ

-- A project of this version has the table.
abbrev pub IsTableOf : ProjectTable → ℕ → Type 0
IsTableOf HostClass version = IsClassedVersion version
IsTableOf WorkunitClass version = IsClassedVersion version
IsTableOf _ version = ⊤

-- The place of a table in the written order.
abbrev pub rank : ProjectTable → ℕ
rank Project = 0
rank Workunit = 1
rank Result = 2
rank Grant = 3
rank Host = 4
rank Archived = 5
rank Import = 6
rank HostClass = 7
rank WorkunitClass = 8

-- The tables in the written order.
abbrev pub in_order : List ProjectTable
in_order = Project ∷ Workunit ∷ Result ∷ Grant ∷ Host ∷ Archived ∷ Import ∷ HostClass ∷ WorkunitClass ∷ []

-- All tables of a version except the queue are there, whatever else is there.
pub record HasTables (version : ℕ) (schema : Schema) (trees : ProjectTrees) : Type 0 where
  pub each : (table : ProjectTable) → IsTableOf table version → HasNamed schema (table_name table) (table_at table (trees table))
  -- Each unique index on only the names of hosts compares their bytes.
  pub by_bytes : (i : Index) → Has schema.indexes i → guards i (host_at (trees Host)) ≡ true → i.columns ≡ 1 ∷ [] → (first_key i.order).collation ≡ Binary
