-- The queue of schema version 2: which rows it has beside the tables of a world, and what makes it.
use Rattle.std.specs.Prelude.{◌≡◌, ◌⊎◌, ℕ, List, [], ◌∷◌, map, codes}
use Rattle.std.specs.List.{AllByRecursion}
use Rattle.sqlite.specs.Effect.{Database, IsDatabase}
use Rattle.sqlite.specs.Table.{Table}
use Rattle.sqlite_catalog.specs.Change.{next_tree, with_index, KeepsRows}
use Rattle.sqlite_rules.specs.Lists.{Has}
use Rattle.sqlite_schema.specs.declared.schema.Index.{Index}
use Rattle.wu_core.specs.World.{World}
use Rattle.wu_core.specs.declared.marks.Marks.{Marks}
use Rattle.wu_schema.specs.Indexes.{NamedIndex, index_at, IsIndexed, queue_indexes}
use Rattle.wu_schema.specs.Made.{AreFree, Named, IsSequence, KeepsOthers}
use Rattle.wu_schema.specs.Refines.{IsFree, ListsAll, Refines}
use Rattle.wu_schema.specs.Stored.{stored_marks}
use Rattle.wu_schema.specs.Tables.{HasNamed, HasTable, queue_at}

-- The name of the queue, and the queue in any tree.
abbrev pub queue_table : Named
queue_table = (codes "queue", queue_at)

-- The queue is there, in a tree of its own and with its five indexes. It has one row for each of these workunits: its
-- number and its marks.
pub record HasQueue (db : Database) (marked : List (ℕ × Marks)) : Type 0 where
  pub tree : ℕ
  pub table : HasNamed db.schema (codes "queue") (queue_at tree)
  pub indexes : AllByRecursion (IsIndexed db.schema tree) queue_indexes
  pub rows : ListsAll (db.trees tree) (map stored_marks marked)

-- One more index is there on this table, nothing had its name, and all else is as it was.
pub record AddsIndex (old new : Database) (table : Table) (named : NamedIndex) : Type 0 where
  pub free : IsFree old.schema named.0
  pub schema : new.schema ≡ with_index old.schema (index_at named table.tree (next_tree old.schema))
  pub rows : KeepsRows old.schema.tables old.trees new.trees
  pub sound : IsDatabase new

-- These indexes are added, one after another.
abbrev pub AddsIndexes : Database → Database → Table → List NamedIndex → Type 0
AddsIndexes old new table [] = new ≡ old
AddsIndexes old new table (named ∷ more) = (mid : Database) × AddsIndex old mid table named × AddsIndexes mid new table more

-- The table gets the index, if its name finds it.
abbrev pub MakesIndex : Named → NamedIndex → Database → Database → Type 0
MakesIndex table named old new = (at tree : ℕ) → HasTable old.schema table.0 at (table.1 tree) → AddsIndex old new (table.1 tree) named

-- The table gets these indexes, in this order.
abbrev pub MakesIndexes : Named → List NamedIndex → Database → Database → Type 0
MakesIndexes table named old new = (at tree : ℕ) → HasTable old.schema table.0 at (table.1 tree) → AddsIndexes old new (table.1 tree) named

-- The name finds the table, which has no row.
abbrev pub HasEmpty : Named → Database → Type 0
HasEmpty table db = (at tree : ℕ) × HasTable db.schema table.0 at (table.1 tree) × (db.trees (table.1 tree).tree ≡ [])

-- The index is one of the queue's, wherever the queue is.
abbrev pub IsQueueIndex : Index → Type 0
IsQueueIndex i = (named : NamedIndex) × (table tree : ℕ) × Has queue_indexes named × (i ≡ index_at named table tree)

-- The table is the queue, wherever it is.
abbrev pub IsQueueTable : Table → Type 0
IsQueueTable t = (tree : ℕ) × (t ≡ queue_at tree)

-- What is there now was there before, or belongs to the queue.
pub record AddsQueue (old new : Database) : Type 0 where
  pub tables : (t : Table) → Has new.schema.tables t
      → Has old.schema.tables t ⊎ (IsQueueTable t ⊎ IsSequence t)
  pub indexes : (i : Index) → Has new.schema.indexes i → Has old.schema.indexes i ⊎ IsQueueIndex i

-- The names of the queue and of its indexes.
abbrev pub queue_names : List (List ℕ)
queue_names = queue_table.0 ∷ map (λ named. named.0) queue_indexes

-- The queue is made without a row; nothing had its names before. The world that the tables represent stays.
pub record MakesQueue (old new : Database) : Type 0 where
  pub free : AreFree old.schema queue_names
  pub queue : HasQueue new []
  pub stands : (world : World) → Refines old world → Refines new world
  pub keeps : KeepsOthers old new
  pub adds : AddsQueue old new
  pub sound : IsDatabase new
