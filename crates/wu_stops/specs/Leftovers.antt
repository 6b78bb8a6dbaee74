-- What a failed opening left of its two files, and what opening them again after a crash finds.
use Rattle.std.specs.Prelude.{◌≡◌, ◌≤◌, ℕ, [], false, IsTrue, ⊤}
use Rattle.sqlite_disk.specs.declared.Disk.{Ghosts}
use Rattle.sqlite_disk.specs.declared.Files.{Files}
use Rattle.sqlite_pool.specs.Stored.{is_summed, stored_size}
use Rattle.sqlite_store.specs.FileStore.{view}
use Rattle.sqlite_store.specs.declared.store.FileStore.{FileStore}
use Rattle.sqlite_wal.specs.Files.{outcomes}
use Rattle.sqlite_wal.specs.PageSize.{IsPageSize}
use Rattle.sqlite_wal.specs.Recovery.{Image}
use Rattle.sqlite.specs.declared.file.Leftover.{Leftover}
use Rattle.sqlite.specs.declared.file.Leftover.TheVariants as left
use Rattle.sqlite.specs.Files.{IsCleanLeft, LeavesFiles, over_files}
use Rattle.sqlite.specs.Opening.{HoldsIn}
use Rattle.sqlite.specs.State.{HasCleanDisk}
use Rattle.sqlite.specs.Tree.{Trees}
use Rattle.wu_core.specs.World.{World, empty_world}
use Rattle.wu_passes.specs.Committing.{FoundAs}
use Rattle.wu_passes.specs.declared.project.Project.{Project}
use Rattle.wu_machine.specs.Machine.{present_version}
use Rattle.wu_plans.specs.Planning.{IsPresentProject}
use Rattle.wu_passes.specs.Projects.{state_of}
use Rattle.wu_passes.specs.Standing.{GoesOn}

-- The two files hold the tables of this world, in pages without the sums of cksumvfs, as an opening makes them.
pub record HoldsPlainly (image : Image) (world : World) : Type 0 where
  pub size : ℕ
  pub valid : IsPageSize (stored_size size)
  pub plain : is_summed size ≡ false
  pub trees : Trees
  pub holds : HoldsIn size image trees
  pub found : FoundAs trees world

module _ {D : Type 0} (g : Ghosts D) (files : Files D) where
  -- Whatever a crash leaves of the two files, the file of the database has no byte.
  abbrev pub StayBlank : Type 0
  StayBlank = (image : Image) → outcomes g files.log files.db image → image.db ≡ []

  -- Whatever a crash leaves of the two files, they hold the tables of this world.
  abbrev pub StayWorld : World → Type 0
  StayWorld world = (image : Image) → outcomes g files.log files.db image → ∥ HoldsPlainly image world ∥₁

  -- A failed opening of these two files left this, as the contract of `open_files` says.
  abbrev pub IsLeftOf : Leftover D g → Type 0
  IsLeftOf left = IsCleanLeft left → LeavesFiles files left

module _ {D : Type 0} {g : Ghosts D} where
  -- If a store is left, each of its trees has the number that the catalog says. The contract of `open_files` says so of
  -- a connection's store, and not of one that is left.
  abbrev pub IsNumberedLeft : Leftover D g → Type 0
  IsNumberedLeft (left.Files files) = ⊤
  IsNumberedLeft (left.Unopened files) = ⊤
  IsNumberedLeft (left.Store store) = IsTrue (view store).is_numbered

  -- Over files that stay blank a session begins from the empty world.
  abbrev pub BeginsFromBlank : Files D → Project (FileStore D g) over_files → Type 0
  BeginsFromBlank files new = StayBlank g files → HasCleanDisk (state_of new) → ∥ GoesOn (state_of new) empty_world ∥₁ × IsPresentProject empty_world

  -- Over files that hold a world, whatever a crash leaves of them, a session goes on from it. The program knows the
  -- world's version.
  abbrev pub GoesFromWorld : Files D → Project (FileStore D g) over_files → Type 0
  GoesFromWorld files new =
      (world : World) → 1 ≤ world.version → StayWorld g files world → HasCleanDisk (state_of new)
      → ∥ GoesOn (state_of new) world × (world.version ≤ present_version) ∥₁

  -- Whichever files a failed opening left so, a session begins or goes on so from what is left.
  abbrev pub BeginsAfter : Leftover D g → Project (FileStore D g) over_files → Type 0
  BeginsAfter left new = (files : Files D) → IsLeftOf g files left → IsNumberedLeft left → BeginsFromBlank files new

  abbrev pub GoesAfter : Leftover D g → Project (FileStore D g) over_files → Type 0
  GoesAfter left new = (files : Files D) → IsLeftOf g files left → IsNumberedLeft left → GoesFromWorld files new
