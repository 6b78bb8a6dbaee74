-- What any number of questions about a project's tables do, and what they report.
use Rattle.std.specs.Prelude.{◌≡◌, ℕ, None, Result, IfOk, IfErr}
use Rattle.sqlite.specs.Effect.{Database}
use Rattle.sqlite.specs.Held.{Held, state}
use Rattle.sqlite.specs.State.{HasCleanDisk}
use Rattle.sqlite.specs.Store.{Ghosts}
use Rattle.wu_core.specs.declared.fault.Fault.{Fault}
use Rattle.wu_schema.specs.Asking.{Asks, ServesUnlessFailed}
use Rattle.wu_schema.specs.Faults.{IsFailure, IsStoreFault}
use Rattle.wu_schema.specs.ProjectTables.{HasTables, ProjectTrees}
use Rattle.wu_loader.specs.Shown.{AreArranged}

-- The tables of this version are there, and their rows are in order of their rowids.
pub record HasArranged (version : ℕ) (db : Database) (trees : ProjectTrees) : Type 0 where
  pub tables : HasTables version db.schema trees
  pub arranged : AreArranged version db.trees trees

-- On a clean disk, this holds of an answer and of the tables of this version.
abbrev pub SaysOfTables : {S T : Type 0} → ℕ → Ghosts S → Held S → Held S → Result T Fault → (Database → ProjectTrees → T → Type 0) → Type 0
SaysOfTables version g old new result Is =
    HasCleanDisk (state g new) → (trees : ProjectTrees) → HasArranged version (state g old).now trees → IfOk result (Is (state g old).now trees)

-- Over these tables, on a clean disk and without a limit on steps, the only faults are `Memory` and `Broken`.
abbrev pub IsAnsweredUnlessFailed : {S T : Type 0} → ℕ → Ghosts S → Held S → Held S → Result T Fault → Type 0
IsAnsweredUnlessFailed version g old new result =
    HasCleanDisk (state g new) → (trees : ProjectTrees) → HasTables version (state g old).now.schema trees → old.step_limit ≡ None → IfErr result IsFailure

-- What questions do to a connection, and what they report of the tables of a version.
pub record LooksAtTables {S T : Type 0} (version : ℕ) (g : Ghosts S) (old new : Held S) (result : Result T Fault) (Is : Database → ProjectTrees → T → Type 0) : Type 0 where
  pub asks : Asks g old new result
  pub opens : ServesUnlessFailed g new result
  pub says : SaysOfTables version g old new result Is
  pub fault : IfErr result IsStoreFault
  pub answered : IsAnsweredUnlessFailed version g old new result
