-- The outputs of a project as files, from the path of its database. The files are copied, and the copy is checked.
use Rattle.std.specs.Prelude.{◌≡◌, ◌⊎◌, ℕ, List, Result, Err}
use Rattle.sqlite_disk.specs.declared.Disk.{Ghosts}
use Rattle.sqlite_disk.specs.declared.Files.{Files}
use Rattle.wu_process.specs.declared.memory_file.MemoryFile.{MemoryFile}
use Rattle.sqlite_store.specs.declared.store.FileStore.{FileStore}
use Rattle.sqlite.specs.Files.{over_files}
use Rattle.sqlite.specs.Held.{Held}
use Rattle.sqlite.specs.Store.{Ghosts as StoreGhosts}
use Rattle.wu_arguments.specs.declared.order.OutputFiles.{OutputFiles}
use Rattle.wu_cli.specs.Outputs.{KeepsIfSound}
use Rattle.wu_cli.specs.declared.outputs.KeptCounts.{KeptCounts}
use Rattle.wu_cli.specs.declared.reason.Reason.{Reason}
use Rattle.wu_cli.specs.declared.trouble.Trouble.{Trouble}
use Rattle.wu_cli.specs.declared.trouble.Trouble.TheVariants as trouble
use Rattle.wu_process.specs.Checks.{IsOpenedIn, IsUnopenedIn}
use Rattle.wu_process.specs.Copies.{AreCopiedFrom}
use Rattle.wu_process.specs.MemoryFiles.{memory_disk}

module _ (keeps : List ℕ → List ℕ → Type 0) (asked : OutputFiles) where
  -- The outputs of an open database are kept, and it is dropped.
  abbrev pub DropsKept : {S : Type 0} → StoreGhosts S → Held S → Result KeptCounts Trouble → Type 0
  DropsKept {S} g conn done = (again : Held S) × KeepsIfSound g keeps asked conn again done

module _ {D : Type 0} (g : Ghosts D) (keeps : List ℕ → List ℕ → Type 0) (asked : OutputFiles) where
  -- The database in the files is opened, and its outputs are kept.
  pub record KeepsOpened (files : Files D) (done : Result KeptCounts Trouble) : Type 0 where
    pub conn : Held (FileStore D g)
    pub opened : IsOpenedIn files conn
    pub keeps_all : DropsKept keeps asked over_files conn done

  -- The outputs of the database in the files are kept; or it cannot be opened.
  abbrev pub KeepsFiles : Files D → Result KeptCounts Trouble → Type 0
  KeepsFiles files done = KeepsOpened files done ⊎ ((told : Trouble) × IsUnopenedIn g files told × (done ≡ Err told))

module _ (keeps : List ℕ → List ℕ → Type 0) (asked : OutputFiles) where
  -- These bytes were read of the files at the path, and the outputs of a copy with exactly these bytes are kept.
  pub record KeepsOfCopy (path : List ℕ) (done : Result KeptCounts Trouble) : Type 0 where
    pub files : Files MemoryFile
    pub copy : AreCopiedFrom path files
    pub keeps_all : KeepsFiles memory_disk keeps asked files done

  -- The folder is not there, or the files cannot be read or copied.
  abbrev pub KeepsNone : Result KeptCounts Trouble → Type 0
  KeepsNone done = (done ≡ Err trouble.NoFolder) ⊎ ((reason : Reason) × (done ≡ Err (trouble.Unchecked reason)))

-- The outputs of the database at a path are kept, or the trouble is why not.
abbrev pub KeepsOfPath : (List ℕ → List ℕ → Type 0) → List ℕ → OutputFiles → Result KeptCounts Trouble → Type 0
KeepsOfPath keeps path asked done = KeepsOfCopy keeps asked path done ⊎ KeepsNone keeps asked done
