-- Where a history of sessions begins: two files are opened, and the project in them is adopted.
use Rattle.std.specs.Prelude.{◌≡◌, ◌≤◌, []}
use Rattle.sqlite_disk.specs.declared.Disk.{Ghosts}
use Rattle.sqlite_store.specs.declared.store.FileStore.{FileStore}
use Rattle.sqlite_wal.specs.Recovery.{Image}
use Rattle.sqlite.specs.Files.{HoldsDatabase, file_state, over_files}
use Rattle.sqlite.specs.Held.{Held}
use Rattle.sqlite.specs.State.{State, HasCleanDisk}
use Rattle.sqlite.specs.Tree.{Trees}
use Rattle.wu_core.specs.World.{World, empty_world}
use Rattle.wu_passes.specs.Committing.{FoundAs}
use Rattle.wu_passes.specs.declared.project.Project.{Project}
use Rattle.wu_machine.specs.Machine.{present_version}
use Rattle.wu_plans.specs.Planning.{IsPresentProject}
use Rattle.wu_passes.specs.Projects.{state_of}
use Rattle.wu_passes.specs.Adopting.{IsVacant, LeavesFresh}
use Rattle.wu_passes.specs.Standing.{FaultsOnlyGrow, GoesOn}
use Rattle.wu_stops.specs.Stopping.{IsCommitted}

-- The two files with these bytes hold the tables of this world.
pub record HoldsWorld (image : Image) (world : World) : Type 0 where
  pub trees : Trees
  pub holds : HoldsDatabase image trees
  pub found : FoundAs trees world

-- If the database has no byte, a session begins from the empty world, and further commands may run over it. Whatever
-- the log holds is then dropped.
abbrev pub BeginsBlank : Image → State → Type 0
BeginsBlank image new = image.db ≡ [] → HasCleanDisk new → GoesOn new empty_world × IsPresentProject empty_world

-- If the files may hold the tables of a world, a session goes on from that world, whose version the program knows.
abbrev pub GoesFromTables : Image → State → Type 0
GoesFromTables image new =
    (world : World) → 1 ≤ world.version → ∥ HoldsWorld image world ∥₁ → HasCleanDisk new
    → ∥ GoesOn new world × (world.version ≤ present_version) ∥₁

-- A database is given back after an adoption, whether that succeeded or not. A crash leaves what it could leave before,
-- or a fresh project, and the session of a world goes on.
pub record LeavesAdopted (old new : State) : Type 0 where
  pub clean : FaultsOnlyGrow old new
  pub left : HasCleanDisk new → LeavesFresh old new
  pub goes : HasCleanDisk new → (world : World) → 1 ≤ world.version → GoesOn old world → GoesOn new world

-- There is no project, all is committed, and a crash leaves nothing else.
pub record AwaitsProject (s : State) : Type 0 where
  pub committed : IsCommitted s
  pub vacant : IsVacant s

module _ {D : Type 0} {g : Ghosts D} (old : Held (FileStore D g)) (new : Project (FileStore D g) over_files) where
  -- After a crash within the adoption of a database without a project, a session begins from the empty world.
  abbrev pub BeginsAgain : Type 0
  BeginsAgain = AwaitsProject (file_state old) → HasCleanDisk (state_of new) → ∥ GoesOn (state_of new) empty_world ∥₁ × IsPresentProject empty_world

  -- After a crash within the adoption of a project, a session goes on from its world.
  abbrev pub GoesAgain : Type 0
  GoesAgain =
      (world : World) → 1 ≤ world.version → GoesOn (file_state old) world → HasCleanDisk (state_of new)
      → ∥ GoesOn (state_of new) world × (world.version ≤ present_version) ∥₁
