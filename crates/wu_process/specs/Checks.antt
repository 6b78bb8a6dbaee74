-- A check of a database, from its path to its report. The files are copied into memory and the copy is checked, so that
-- the check neither makes nor changes a file.
use Rattle.std.specs.Prelude.{◌≡◌, ◌⊎◌, ℕ, IsTrue, List, Option, Result, Ok, Err}
use Rattle.sqlite_disk.specs.declared.Disk.{Ghosts}
use Rattle.sqlite_disk.specs.declared.Files.{Files}
use Rattle.wu_process.specs.declared.memory_file.MemoryFile.{MemoryFile}
use Rattle.sqlite_store.specs.declared.store.FileStore.{FileStore}
use Rattle.sqlite.specs.Files.{FailsToOpenFiles, file_state, Finds, IsCleanLeft, IsOpened, over_files}
use Rattle.sqlite.specs.Held.{Held, IsNew}
use Rattle.sqlite.specs.Opening.{is_open_error}
use Rattle.sqlite.specs.State.{HasCleanDisk}
use Rattle.sqlite.specs.Store.{Ghosts as StoreGhosts}
use Rattle.sqlite.specs.declared.error.Error.{Error}
use Rattle.sqlite.specs.declared.file.Leftover.{Leftover}
use Rattle.wu_cli.specs.Checking.{ChecksOver}
use Rattle.wu_cli.specs.Checks.{reason_of_copy}
use Rattle.wu_cli.specs.declared.reason.Reason.{Reason}
use Rattle.wu_cli.specs.declared.trouble.Trouble.{Trouble}
use Rattle.wu_cli.specs.declared.trouble.Trouble.TheVariants as trouble
use Rattle.wu_process.specs.Copies.{AreCopiedFrom}
use Rattle.wu_process.specs.MemoryFiles.{memory_disk}

-- An open database is checked, and then dropped.
abbrev pub DropsChecked : {S W : Type 0} → StoreGhosts S → (W → Option (List ℕ)) → Held S → W → W → Result (Unit {0}) Trouble → Type 0
DropsChecked {S} g contents conn old new done = (again : Held S) × ChecksOver g contents conn again old new done

module _ {D : Type 0} {g : Ghosts D} where
  -- This is a new connection to the database in the two files.
  pub record IsOpenedIn (files : Files D) (conn : Held (FileStore D g)) : Type 0 where
    pub opens : HasCleanDisk (file_state conn) → IsOpened conn
    pub finds : HasCleanDisk (file_state conn) → Finds files conn
    pub fresh : IsNew conn

module _ {D : Type 0} (g : Ghosts D) where
  -- The database in the two files cannot be opened, and this is the trouble.
  pub record IsUnopenedIn (files : Files D) (told : Trouble) : Type 0 where
    pub error : Error
    pub rest : Leftover D g
    pub named : IsTrue (is_open_error error)
    pub cause : IsCleanLeft rest → FailsToOpenFiles files rest error
    pub is : told ≡ trouble.Unchecked (reason_of_copy error)

  -- The database in the two files is opened, or it cannot be.
  abbrev pub OpensCopy : Files D → Result (Held (FileStore D g)) Trouble → Type 0
  OpensCopy files (Ok conn) = IsOpenedIn files conn
  OpensCopy files (Err told) = IsUnopenedIn files told

module _ {D W : Type 0} (g : Ghosts D) (contents : W → Option (List ℕ)) where
  -- The database in the files is opened and checked.
  pub record ChecksOpened (files : Files D) (old new : W) (done : Result (Unit {0}) Trouble) : Type 0 where
    pub conn : Held (FileStore D g)
    pub opened : IsOpenedIn files conn
    pub checks : DropsChecked over_files contents conn old new done

  -- The database in the files cannot be opened: the reason is reported, and nothing goes out.
  pub record ChecksUnopened (files : Files D) (old new : W) (done : Result (Unit {0}) Trouble) : Type 0 where
    pub trouble : Trouble
    pub unopened : IsUnopenedIn g files trouble
    pub told : done ≡ Err trouble
    pub unwritten : new ≡ old

  abbrev pub ChecksFiles : Files D → W → W → Result (Unit {0}) Trouble → Type 0
  ChecksFiles files old new done = ChecksOpened files old new done ⊎ ChecksUnopened files old new done

module _ {W : Type 0} (contents : W → Option (List ℕ)) where
  -- These bytes were read of the files at the path, and a copy with exactly these bytes is checked.
  pub record ChecksCopy (path : List ℕ) (old new : W) (done : Result (Unit {0}) Trouble) : Type 0 where
    pub files : Files MemoryFile
    pub copy : AreCopiedFrom path files
    pub checks : ChecksFiles memory_disk contents files old new done

  -- The files cannot be read or copied: the reason is reported, and nothing goes out.
  abbrev pub IsUnchecked : W → W → Result (Unit {0}) Trouble → Type 0
  IsUnchecked old new done = (reason : Reason) × (done ≡ Err (trouble.Unchecked reason)) × (new ≡ old)

  abbrev pub ChecksPath : List ℕ → W → W → Result (Unit {0}) Trouble → Type 0
  ChecksPath path old new done = ChecksCopy path old new done ⊎ IsUnchecked old new done
