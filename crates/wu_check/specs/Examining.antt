-- What questions do to a connection, and what they report of the database that it shows.
use Rattle.std.specs.Prelude.{◌≡◌, ℕ, codes, Err, None, Ok, Option, Result, IfErr, IfOk}
use Rattle.sqlite.specs.Effect.{Database}
use Rattle.sqlite.specs.Held.{Held, state}
use Rattle.sqlite.specs.State.{HasCleanDisk}
use Rattle.sqlite.specs.Store.{Ghosts}
use Rattle.wu_core.specs.declared.fault.Fault.{Fault}
use Rattle.wu_core.specs.declared.fault.Fault.TheVariants.{NotAProject}
use Rattle.wu_schema.specs.Asking.{Asks}
use Rattle.wu_schema.specs.Faults.{IsFailure, IsStoreFault}
use Rattle.wu_core.specs.World.{World}
use Rattle.wu_loader.specs.Shown.{AreArranged, AreWhole}
use Rattle.wu_schema.specs.Refines.{Refines}
use Rattle.wu_schema.specs.Tables.{HasNamed, queue_at, workunit_at}
use Rattle.wu_schema.specs.ProjectTables.{HasTables, ProjectTrees}
use Rattle.wu_store.specs.StandsFor.{IsQueued}
use Rattle.wu_check.specs.Checking.{IsWellKept}
use Rattle.wu_check.specs.Queues.{IsKeptQueue}
use Rattle.wu_check.specs.Versions.{IsVersionOf}

-- On a clean disk, if the rows of the shown database are in order and whole, this holds of that database and of an
-- answer.
abbrev pub OnKept : {S T : Type 0} → Ghosts S → Held S → Held S → Result T Fault → (Database → T → Type 0) → Type 0
OnKept g old new result Is = HasCleanDisk (state g new) → IsWellKept (state g old).now → IfOk result (Is (state g old).now)

-- On a clean disk and without a limit on steps, the only faults are `Memory` and `Broken`.
abbrev pub AnswersUnlessFailed : {S T : Type 0} → Ghosts S → Held S → Held S → Result T Fault → Type 0
AnswersUnlessFailed g old new result = HasCleanDisk (state g new) → old.step_limit ≡ None → IfErr result IsFailure

-- Questions show all that is in the tables of a project, and in its queue if it has one.
pub record IsLegible (db : Database) : Type 0 where
  -- Rows are in order in the tables that every version has, and in those of the project's own version.
  pub plain : (trees : ProjectTrees) → HasTables 1 db.schema trees → AreArranged 1 db.trees trees
  pub project : (version : ℕ) → IsVersionOf db version → (trees : ProjectTrees) → HasTables version db.schema trees → AreArranged version db.trees trees
  pub workunits : (tree : ℕ) → HasNamed db.schema (codes "workunit") (workunit_at tree) → AreWhole 15 (db.trees tree)
  pub queue : (world : World) → Refines db world → IsQueued world → (tree : ℕ) → HasNamed db.schema (codes "queue") (queue_at tree) → IsKeptQueue (db.trees tree)

-- If the disk is clean and the shown database is of this kind, this holds of that database and of an answer.
abbrev pub OnLegible : {S T : Type 0} → Ghosts S → Held S → Held S → Result T Fault → (Database → T → Type 0) → Type 0
OnLegible g old new result Is = HasCleanDisk (state g new) → IsLegible (state g old).now → IfOk result (Is (state g old).now)

-- What questions do, and what they report of a database whose rows they show whole.
pub record Examines {S T : Type 0} (g : Ghosts S) (old new : Held S) (result : Result T Fault) (Is : Database → T → Type 0) : Type 0 where
  pub asks : Asks g old new result
  pub says : OnLegible g old new result Is
  pub fault : IfErr result IsStoreFault
  pub answered : AnswersUnlessFailed g old new result

-- Nothing is found where a question was refused.
abbrev pub unless_refused : {T : Type 0} → Result (Option T) Fault → Result (Option T) Fault
unless_refused (Err NotAProject) = Ok None
unless_refused found = found
