-- Indexes: the texts that make one, what making one leaves of a world, and the indexes of the queue.
use Rattle.std.specs.Prelude.{◌≡◌, ℕ, List, [], ◌∷◌, ◌++◌, codes, slice_range, false, Ok}
use Rattle.sqlite.specs.Held.{Held, state}
use Rattle.sqlite.specs.State.{Executes}
use Rattle.sqlite.specs.Store.{Ghosts}
use Rattle.sqlite.specs.Schema.{Schema}
use Rattle.sqlite.specs.Table.{Table}
use Rattle.sqlite_schema.specs.declared.schema.Index.{Index}
use Rattle.sqlite_rules.specs.Lists.{Has}
use Rattle.wu_core.specs.World.{World}
use Rattle.wu_schema.specs.Refines.{Refines}
use Rattle.wu_schema.specs.Tables.{HasTable}
use Rattle.sqlite_ast.specs.declared.CreateIndex.{CreateIndex}
use Rattle.sqlite_ast.specs.declared.Statement.TheVariants as written
use Rattle.sqlite_syntax.specs.declared.statement.Parsed.{Parsed}
use Rattle.sqlite_resolve.specs.Compile.{first}

-- The text makes an index, not unique, on the table of this name.
pub record DefinesIndex (text name : List ℕ) : Type 0 where
  pub parsed : Parsed
  pub def : CreateIndex
  pub read : first text ≡ Ok parsed
  pub is : parsed.statement ≡ written.CreateIndex def
  pub plain : parsed.formats ≡ []
  pub on : def.table ≡ name
  pub new : def.if_missing ≡ false
  pub shared : def.is_unique ≡ false
  pub text_is : slice_range text parsed.start parsed.end ≡ text

-- If its name finds a table, the text leaves each represented world as it is.
abbrev pub LeavesWorlds : {S : Type 0} → Ghosts S → (text name : List ℕ) → Type 0
LeavesWorlds {S} g text name =
    (old new : Held S) (at : ℕ) (table : Table) → HasTable (state g old).now.schema name at table
    → (count : ℕ) → Executes text [] (state g old) (state g new) (Ok count)
    → (world : World) → Refines (state g old).now world → Refines (state g new).now world

-- The name of an index, and the places of its columns in a row; 0 is the rowid.
abbrev pub NamedIndex : Type 0
NamedIndex = List ℕ × List ℕ

-- The index on the table in the first tree, in the second tree: its columns ascend, and it is not unique.
abbrev pub index_at : NamedIndex → (table tree : ℕ) → Index
index_at named table tree = record { name = named.0; tree = tree; table = table; columns = named.1; order = record { digits = 0 }; is_unique = false }

-- The table in this tree has the index.
abbrev pub IsIndexed : Schema → ℕ → NamedIndex → Type 0
IsIndexed schema table named = (tree : ℕ) × Has schema.indexes (index_at named table tree)

-- The indexes of the queue: by the moment, and by each mark with the number of the workunit.
abbrev pub queue_wake : NamedIndex
queue_wake = (codes "queue_wake", 2 ∷ [])

abbrev pub queue_validate : NamedIndex
queue_validate = (codes "queue_validate", 3 ∷ 0 ∷ [])

abbrev pub queue_assimilate : NamedIndex
queue_assimilate = (codes "queue_assimilate", 4 ∷ 0 ∷ [])

abbrev pub queue_delete : NamedIndex
queue_delete = (codes "queue_delete", 5 ∷ 0 ∷ [])

abbrev pub queue_purge : NamedIndex
queue_purge = (codes "queue_purge", 6 ∷ [])

abbrev pub mark_indexes : List NamedIndex
mark_indexes = queue_validate ∷ queue_assimilate ∷ queue_delete ∷ []

abbrev pub moment_indexes : List NamedIndex
moment_indexes = queue_wake ∷ queue_purge ∷ []

-- All five indexes of the queue.
abbrev pub queue_indexes : List NamedIndex
queue_indexes = mark_indexes ++ moment_indexes
