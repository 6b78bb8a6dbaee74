-- What opening a database by its path gives. No clause can say that the files are at the path.
use Rattle.std.specs.Prelude.{◌≡◌, ◌≢◌, ◌⊎◌, ℕ, Bool, false, true, List, codes, IfSome, IsTrue, None, Option}
use Rattle.sqlite_disk.specs.declared.Disk.{Ghosts}
use Rattle.sqlite_disk.specs.declared.Files.{Files}
use Rattle.sqlite_disk.specs.declared.calls.Calls as calls
use Rattle.sqlite_disk.specs.declared.modelled.Modelled.{Modelled}
use Rattle.sqlite_disk.specs.declared.start.Start as start
use Rattle.sqlite_std_file.specs.File.{IsFresh}
use Rattle.sqlite_std_file.specs.declared.host.Host.{Host}
use Rattle.sqlite_store.specs.FileStore.{view}
use Rattle.sqlite_store.specs.declared.store.FileStore.{FileStore}
use Rattle.sqlite_wal.specs.Recovery.{Image}
use Rattle.sqlite.specs.Files.{FailsToOpenFiles, file_state, IsBlankAs, IsCleanLeft, IsOpened, LeavesFiles}
use Rattle.sqlite.specs.Held.{Held, IsNew}
use Rattle.sqlite.specs.Opening.{is_open_error}
use Rattle.sqlite.specs.Start.{FindsIn}
use Rattle.sqlite.specs.State.{HasCleanDisk}
use Rattle.sqlite.specs.declared.file.Leftover.{Leftover}
use Rattle.sqlite.specs.declared.error.Error.{Error}
use Rattle.sqlite.specs.declared.error.Error.TheVariants.{SqliteFailure}
use Rattle.sqlite.specs.declared.error.ErrorCode.TheVariants.{CannotOpen, DatabaseBusy, OutOfMemory}
use Rattle.wu_cli.specs.LogNames.{names_log}
use Rattle.wu_cli.specs.declared.trouble.Trouble.{Trouble}
use Rattle.wu_cli.specs.declared.trouble.Trouble.TheVariants as trouble
use Rattle.wu_core.specs.declared.fault.Fault.TheVariants.{Memory}

-- The path that names a database in memory; opening files refuses it.
abbrev pub in_memory : List ℕ
in_memory = codes ":memory:"

-- The trouble of a database that is not opened, because of what lies at its path or beside it, or out of memory.
abbrev pub IsBar : Trouble → Type 0
IsBar told = (told ≡ trouble.Unopened) ⊎ (told ≡ trouble.Fault Memory)

-- The errors that an opening may report before it has opened the two files.
abbrev pub IsEarly : Error → Type 0
IsEarly error = (error ≡ SqliteFailure CannotOpen) ⊎ ((error ≡ SqliteFailure OutOfMemory) ⊎ (error ≡ SqliteFailure DatabaseBusy))

-- This is a connection to the database of this path, over two files that held this image when they were opened.
pub record IsOpenedAt {D : Type 0} {g : Ghosts D} (path : List ℕ) (image : Image) (conn : Held (FileStore D g)) : Type 0 where
  pub of_file : path ≢ in_memory
  pub own_name : names_log path ≡ false
  pub opens : HasCleanDisk (file_state conn) → IsOpened conn
  pub finds : HasCleanDisk (file_state conn) → FindsIn image (file_state conn)
  pub plain : HasCleanDisk (file_state conn) → IsBlankAs false image → (view conn.store).has_sums ≡ false
  pub fresh : IsNew conn
  pub guarded : HasCleanDisk (file_state conn) → (file_state conn).IsShielded

module _ {S : Type 0} {c : calls.Ghosts Host} {s : start.Ghosts S} {g : Ghosts (Modelled Host S c s)} where
  -- Opening two files, which held what the start says, failed for this cause and left this of them.
  abbrev pub IsLeftUnopened : Error → Leftover (Modelled Host S c s) g → Type 0
  IsLeftUnopened error left =
      (files : Files (Modelled Host S c s)) × IsFresh true files.log × IsFresh false files.db
      × (IsCleanLeft left → FailsToOpenFiles files left error × LeavesFiles files left)

  -- Why the database of this path was not opened, and what is left of its files if they were opened.
  pub record IsUnopened (path : List ℕ) (error : Error) (left : Option (Leftover (Modelled Host S c s) g)) : Type 0 where
    pub named : IsTrue (is_open_error error)
    pub in_memory : path ≡ in_memory → error ≡ SqliteFailure CannotOpen
    pub early : left ≡ None → IsEarly error
    pub late : IfSome left (IsLeftUnopened error)
