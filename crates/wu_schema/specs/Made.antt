-- What the statements that make a project do to a database.
use Rattle.std.specs.Prelude.{◌≡◌, ◌≢◌, ◌⊎◌, ℕ, ℤ, pos, ◌+◌, List, [], ◌∷◌, ◌++◌, length, map, codes, false}
use Rattle.std.specs.List.{AllByRecursion}
use Rattle.sqlite.specs.Order.{Row}
use Rattle.sqlite.specs.declared.types.Value.TheVariants.{Null, Int}
use Rattle.sqlite.specs.Table.{Table}
use Rattle.sqlite.specs.Tree.{put_row}
use Rattle.sqlite.specs.Edit.{is_taken}
use Rattle.sqlite.specs.Effect.{Database, IsDatabase}
use Rattle.sqlite_schema.specs.declared.schema.Index.{Index}
use Rattle.sqlite_schema.specs.declared.schema.Schema.{Schema}
use Rattle.sqlite_catalog.specs.Change.{next_tree, automatics, KeepsRows}
use Rattle.sqlite_rules.specs.Lists.{Has}
use Rattle.wu_core.specs.World.{empty_world}
use Rattle.wu_schema.specs.Tables.{HasTable, OwnsTree, project_at, workunit_at, result_at, grant_at, host_at, archived_at, import_at, host_class_at, workunit_class_at}
use Rattle.wu_schema.specs.Refines.{IsFree, Refines}

-- One row is added, and every other table stays.
pub record PutsOne (old new : Database) (tree : ℕ) (row : Row) : Type 0 where
  pub schema : new.schema ≡ old.schema
  pub fresh : is_taken (old.trees tree) row ≡ false
  pub rows : new.trees tree ≡ put_row row (old.trees tree)
  pub tables : AllByRecursion (λ t. t.tree ≢ tree → new.trees t.tree ≡ old.trees t.tree) old.schema.tables
  pub sound : IsDatabase new

-- A name, and the table of this name in any tree.
abbrev pub Named : Type 0
Named = List ℕ × (ℕ → Table)

-- The indexes that a table's unique keys make, in trees from this one on.
abbrev pub keys_of : Table → ℕ → List Index
keys_of table tree = automatics table 0 tree table.uniques

-- This is the table that SQLite itself keeps if some table counts its rows.
abbrev pub IsSequence : Table → Type 0
IsSequence table = table.name ≡ codes "sqlite_sequence"

-- The names of these tables.
abbrev pub names_of : List Named → List (List ℕ)
names_of made = map (λ named. named.0) made

-- Nothing has one of these names.
abbrev pub AreFree : Schema → List (List ℕ) → Type 0
AreFree schema names = AllByRecursion (IsFree schema) names

-- The table is there and empty, nothing had its name, and what was there stays.
pub record HasMade (old new : Database) (named : Named) : Type 0 where
  pub free : IsFree old.schema named.0
  pub has : HasTable new.schema named.0 (length old.schema.tables) (named.1 (next_tree old.schema))
  pub placed : (named.1 (next_tree old.schema)).tree ≡ next_tree old.schema
  pub empty : new.trees (next_tree old.schema) ≡ []
  pub keeps : (other : List ℕ) (at : ℕ) (t : Table) → HasTable old.schema other at t → HasTable new.schema other at t
  pub listed : (t : Table) → Has old.schema.tables t → Has new.schema.tables t
  pub others : KeepsRows old.schema.tables old.trees new.trees
  pub owns : OwnsTree new.schema (named.1 (next_tree old.schema))
  pub keeps_own : (t : Table) → Has old.schema.tables t → OwnsTree old.schema t → OwnsTree new.schema t
  pub views : new.schema.views ≡ old.schema.views
  pub indexes : (i : Index) → Has old.schema.indexes i → Has new.schema.indexes i
  -- Each new table is this one or SQLite's own, and each new index is one of this table's keys.
  pub new_tables : (t : Table) → Has new.schema.tables t
      → Has old.schema.tables t ⊎ ((t ≡ named.1 (next_tree old.schema)) ⊎ IsSequence t)
  pub new_indexes : (i : Index) → Has new.schema.indexes i
      → Has old.schema.indexes i ⊎ Has (keys_of (named.1 (next_tree old.schema)) (next_tree old.schema + 1)) i
  pub sound : IsDatabase new

-- The table of this name is made.
abbrev pub MakesTable : Named → Database → Database → Type 0
MakesTable named old new = HasMade old new named

-- These tables are made, one after another.
abbrev pub MakesAll : Database → Database → List Named → Type 0
MakesAll old new [] = new ≡ old
MakesAll old new (named ∷ more) = (mid : Database) × HasMade old mid named × MakesAll mid new more

-- These tables are made, in this order.
abbrev pub MakesTables : List Named → Database → Database → Type 0
MakesTables made old new = MakesAll old new made

-- The tree has no index.
abbrev pub IsUnindexed : Schema → ℕ → Type 0
IsUnindexed schema tree = (i : Index) → Has schema.indexes i → i.table ≢ tree

-- The table `project` is there, and has no index.
abbrev pub HasBareProject : Database → Type 0
HasBareProject db = (at tree : ℕ) × HasTable db.schema (codes "project") at (project_at tree) × IsUnindexed db.schema tree

-- The row of a fresh project of this version is added.
abbrev pub PutsProject : ℤ → Database → Database → Type 0
PutsProject version old new = (at tree : ℕ) → HasTable old.schema (codes "project") at (project_at tree) → PutsOne old new tree (Int (pos 1) ∷ Null ∷ Int version ∷ Int (pos 1) ∷ [])

-- Each table of a project by its name, except its queue.
abbrev pub project_table : Named
project_table = (codes "project", project_at)

abbrev pub workunit_table : Named
workunit_table = (codes "workunit", workunit_at)

abbrev pub result_table : Named
result_table = (codes "result", result_at)

abbrev pub grant_table : Named
grant_table = (codes "credit_grant", grant_at)

abbrev pub host_table : Named
host_table = (codes "host", host_at)

abbrev pub archived_table : Named
archived_table = (codes "archived", archived_at)

abbrev pub import_table : Named
import_table = (codes "import", import_at)

abbrev pub host_class_table : Named
host_class_table = (codes "host_class", host_class_at)

abbrev pub workunit_class_table : Named
workunit_class_table = (codes "workunit_class", workunit_class_at)

-- The tables of a project and its workunits.
abbrev pub work_tables : List Named
work_tables = project_table ∷ workunit_table ∷ result_table ∷ []

-- The tables of what is kept permanently.
abbrev pub record_tables : List Named
record_tables = grant_table ∷ host_table ∷ archived_table ∷ import_table ∷ []

-- The tables of classes.
abbrev pub class_tables : List Named
class_tables = host_class_table ∷ workunit_class_table ∷ []

-- What was there stays as it was, whoever made it.
pub record KeepsOthers (old new : Database) : Type 0 where
  pub tables : (t : Table) → Has old.schema.tables t → Has new.schema.tables t × (new.trees t.tree ≡ old.trees t.tree)
  pub owns : (t : Table) → Has old.schema.tables t → OwnsTree old.schema t → OwnsTree new.schema t
  pub indexes : (i : Index) → Has old.schema.indexes i → Has new.schema.indexes i
  pub views : new.schema.views ≡ old.schema.views

-- The tables of a project, except its queue.
abbrev pub project_tables : List Named
project_tables = work_tables ++ (record_tables ++ class_tables)

-- The table is one of a project, in any tree.
abbrev pub IsOurTable : Table → Type 0
IsOurTable t = (named : Named) × (tree : ℕ) × Has project_tables named × (t ≡ named.1 tree)

-- The index is a unique key of such a table.
abbrev pub IsOurKey : Index → Type 0
IsOurKey i = (t : Table) × (tree : ℕ) × IsOurTable t × Has (keys_of t tree) i

-- What is there now was there before, or belongs to the project.
pub record AddsOurs (old new : Database) : Type 0 where
  pub tables : (t : Table) → Has new.schema.tables t → Has old.schema.tables t ⊎ (IsOurTable t ⊎ IsSequence t)
  pub indexes : (i : Index) → Has new.schema.indexes i → Has old.schema.indexes i ⊎ IsOurKey i

-- The tables represent the empty world beside what was there; nothing had their names before.
pub record MakesEmpty (old new : Database) : Type 0 where
  pub free : AreFree old.schema (names_of project_tables)
  pub stands : Refines new empty_world
  pub keeps : KeepsOthers old new
  pub adds : AddsOurs old new
  pub sound : IsDatabase new
