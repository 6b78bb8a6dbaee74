-- A fresh project of the present version: the tables of the empty world, and a queue without a row.
use Rattle.std.specs.Prelude.{◌≡◌, ◌⊎◌, ℕ, List, [], ◌++◌, IsErrAnd, Result}
use Rattle.sqlite.specs.Effect.{Database, IsDatabase}
use Rattle.sqlite.specs.Held.{Held, state}
use Rattle.sqlite.specs.State.{HasCleanDisk}
use Rattle.sqlite.specs.Store.{Ghosts}
use Rattle.sqlite.specs.Table.{Table}
use Rattle.sqlite_rules.specs.Lists.{Has}
use Rattle.sqlite_schema.specs.declared.schema.Index.{Index}
use Rattle.sqlite_schema.specs.declared.schema.Schema.{Schema}
use Rattle.wu_core.specs.World.{empty_world}
use Rattle.wu_core.specs.declared.fault.Fault.{Fault}
use Rattle.wu_core.specs.declared.fault.Fault.TheVariants.{Broken, Memory, NotAProject}
use Rattle.wu_schema.specs.Calls.{HasBroken}
use Rattle.wu_schema.specs.Made.{AreFree, IsOurKey, IsOurTable, IsSequence, KeepsOthers, names_of, project_tables}
use Rattle.wu_schema.specs.Queue.{HasQueue, IsQueueIndex, IsQueueTable, queue_names}
use Rattle.wu_schema.specs.Refines.{IsFree, Refines}

-- What is there now was there before, or belongs to the project.
pub record AddsProject (old new : Database) : Type 0 where
  pub tables : (t : Table) → Has new.schema.tables t
      → Has old.schema.tables t ⊎ (IsOurTable t ⊎ (IsQueueTable t ⊎ IsSequence t))
  pub indexes : (i : Index) → Has new.schema.indexes i
      → Has old.schema.indexes i ⊎ (IsOurKey i ⊎ IsQueueIndex i)

-- The names of a project's tables, of its queue and of the queue's indexes.
abbrev pub project_names : List (List ℕ)
project_names = names_of project_tables ++ queue_names

-- Something has one of these names.
abbrev pub TakesName : Schema → Type 0
TakesName schema = (name : List ℕ) × Has project_names name × ¬ IsFree schema name

-- A fresh project is made beside what was there; nothing had one of its names before.
pub record MakesProject (old new : Database) : Type 0 where
  pub free : AreFree old.schema project_names
  pub stands : Refines new empty_world
  pub queue : HasQueue new []
  pub keeps : KeepsOthers old new
  pub adds : AddsProject old new
  pub sound : IsDatabase new

-- The fault is `NotAProject`, `Memory`, or `Broken` for this cause.
abbrev pub IsTakenFault : Type 0 → Fault → Type 0
IsTakenFault Broke fault = (fault ≡ NotAProject) ⊎ ((fault ≡ Memory) ⊎ ((fault ≡ Broken) × Broke))

-- If a name is taken, no project is made, and the fault is one of these.
abbrev pub RefusesTaken : {S T : Type 0} → Ghosts S → Held S → Held S → Result T Fault → Type 0
RefusesTaken g old new result =
    HasCleanDisk (state g new) → TakesName (state g old).now.schema → IsErrAnd result (IsTakenFault (HasBroken g old new))
