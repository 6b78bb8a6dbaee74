-- The close of a connection over two files, and what opening them again after a crash finds.
use Rattle.std.specs.Prelude.{IsTrue, Result, Ok, Err}
use Rattle.sqlite_disk.specs.declared.Disk.{Ghosts}
use Rattle.sqlite_disk.specs.declared.Files.{Files}
use Rattle.sqlite_store.specs.FileStore.{view}
use Rattle.sqlite_store.specs.declared.store.FileStore.{FileStore}
use Rattle.sqlite_wal.specs.Files.{outcomes}
use Rattle.sqlite_wal.specs.Reads.{AreClean}
use Rattle.sqlite_wal.specs.Recovery.{Image}
use Rattle.sqlite.specs.declared.error.Error.{Error}
use Rattle.sqlite.specs.Closing.{IsCopied}
use Rattle.sqlite.specs.Files.{IsClosed, file_state, over_files}
use Rattle.sqlite.specs.Held.{Held}
use Rattle.sqlite.specs.Start.{FindsIn}
use Rattle.sqlite.specs.State.{State, HasCleanDisk}
use Rattle.wu_core.specs.World.{World}
use Rattle.wu_passes.specs.Standing.{GoesOn}
use Rattle.wu_passes.specs.declared.project.Project.{Project}
use Rattle.wu_stops.specs.Beginning.{BeginsAgain, GoesAgain}
use Rattle.wu_stops.specs.Stopping.{FindsAgain, IsCommitted, WasClean}

-- On a clean disk, the tables represent again each world over which the session went on.
abbrev pub KeepsWorlds : State → State → Type 0
KeepsWorlds old new = HasCleanDisk new → (world : World) → GoesOn old world → ∥ GoesOn new world ∥₁

module _ {D : Type 0} (g : Ghosts D) (files : Files D) where
  -- What is found is what the files hold after an outcome of the crash, and it is open and committed.
  pub record FindsOutcome (again : Held (FileStore D g)) : Type 0 where
    pub whole : IsCommitted (file_state again)
    pub honest : AreClean g files.log files.db
    pub image : Image
    pub may : outcomes g files.log files.db image
    pub found : FindsIn image (file_state again)

  -- On a disk that is clean by then, this is what is found.
  abbrev pub FindsStopped : Held (FileStore D g) → Type 0
  FindsStopped again = HasCleanDisk (file_state again) → FindsOutcome again

  -- A close of this connection succeeded and gave these files back, as the contract of `close_files` says.
  abbrev pub IsGivenBack : Held (FileStore D g) → Type 0
  IsGivenBack old = AreClean g files.log files.db → IsCopied old files

  -- Whichever connection was closed, what is found is its last commit.
  abbrev pub FindsClosed : Held (FileStore D g) → Type 0
  FindsClosed again = (old : Held (FileStore D g)) → IsGivenBack old → FindsAgain (file_state old) (file_state again)

  -- Whichever connection was closed, the tables represent the worlds from before the close.
  abbrev pub KeepsClosed : Held (FileStore D g) → Type 0
  KeepsClosed again = (old : Held (FileStore D g)) → IsGivenBack old → KeepsWorlds (file_state old) (file_state again)

  -- Whichever connection was closed, a disk that is clean by then was clean before the close.
  abbrev pub WasCleanClosed : Held (FileStore D g) → Type 0
  WasCleanClosed again = (old : Held (FileStore D g)) → IsGivenBack old → WasClean (file_state old) (file_state again)

module _ {D : Type 0} {g : Ghosts D} where
  -- Each tree of the store has the number that the catalog says. The contract of `close_files` does not say so of the
  -- store that a failed close leaves.
  abbrev pub IsNumbered : FileStore D g → Type 0
  IsNumbered left = IsTrue (view left).is_numbered

  -- A close of this connection failed and left a store, whose trees are so numbered.
  pub record IsUnclosed (left : FileStore D g) (old : Held (FileStore D g)) : Type 0 where
    pub closed : IsClosed old left
    pub numbered : IsNumbered left

  -- Whichever connection failed to close, what is found is what the crash could leave of it.
  abbrev pub FindsUnclosed : FileStore D g → Held (FileStore D g) → Type 0
  FindsUnclosed left again = (old : Held (FileStore D g)) → IsUnclosed left old → FindsAgain (file_state old) (file_state again)

  -- Whichever connection failed to close, the tables represent the worlds from before the close.
  abbrev pub KeepsUnclosed : FileStore D g → Held (FileStore D g) → Type 0
  KeepsUnclosed left again = (old : Held (FileStore D g)) → IsUnclosed left old → KeepsWorlds (file_state old) (file_state again)

  -- Whichever connection failed to close, a disk that is clean by then was clean before, even if the store is not so
  -- numbered.
  abbrev pub WasCleanUnclosed : FileStore D g → State → Type 0
  WasCleanUnclosed left new = (old : Held (FileStore D g)) → IsClosed old left → WasClean (file_state old) new

  -- Whichever connection failed to close, a session goes on from its world from before the close.
  abbrev pub GoesUnclosed : FileStore D g → Project (FileStore D g) over_files → Type 0
  GoesUnclosed left new = (old : Held (FileStore D g)) → IsUnclosed left old → GoesAgain old new

  -- Whichever connection failed to close, without a project a session begins from the empty world.
  abbrev pub BeginsUnclosed : FileStore D g → Project (FileStore D g) over_files → Type 0
  BeginsUnclosed left new = (old : Held (FileStore D g)) → IsUnclosed left old → BeginsAgain old new

  -- This holds after a close that succeeded. It holds after a failed one too, if the trees of the store that it left
  -- are numbered as the catalog says.
  abbrev pub AfterClose : Held (FileStore D g) → Result (Unit {0}) Error → Type 0 → Type 0
  AfterClose old (Ok done) holds = holds
  AfterClose old (Err error) holds = (left : FileStore D g) × IsClosed old left × (IsNumbered left → holds)
