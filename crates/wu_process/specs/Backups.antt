-- A backup of a database, from its path to the new file. The files are copied, and the copy is checked and closed, so
-- that its one file holds the project without a log. Or the project's world is loaded, and a new database filled with it.
use Rattle.std.specs.Prelude.{◌≡◌, ◌⊎◌, ℕ, false, List, [], IfErr, MatchResult, Option, Some, Result, Ok, Err, ⊤}
use Rattle.sqlite_disk.specs.declared.Disk.{Ghosts}
use Rattle.sqlite_disk.specs.declared.Files.{Files}
use Rattle.wu_process.specs.declared.memory_file.MemoryFile.{MemoryFile}
use Rattle.sqlite_store.specs.declared.store.FileStore.{FileStore}
use Rattle.sqlite.specs.Files.{over_files}
use Rattle.sqlite.specs.Held.{Held}
use Rattle.sqlite.specs.Store.{Ghosts as StoreGhosts}
use Rattle.sqlite.specs.declared.error.Error.{Error}
use Rattle.wu_cli.specs.Backups.{CountsSound}
use Rattle.wu_cli.specs.Checks.{reason_of_copy}
use Rattle.wu_cli.specs.LogNames.{names_log}
use Rattle.wu_check.specs.declared.finding.Counts.{Counts}
use Rattle.wu_cli.specs.declared.backup.Unmade.{Unmade}
use Rattle.wu_cli.specs.declared.reason.Reason.{Reason}
use Rattle.wu_cli.specs.declared.trouble.Trouble.{Trouble}
use Rattle.wu_cli.specs.declared.trouble.Trouble.TheVariants as trouble
use Rattle.wu_core.specs.World.{World}
use Rattle.wu_core.specs.declared.fault.Fault.{Fault}
use Rattle.wu_refill.specs.Loading.{FindsAlone}
use Rattle.wu_refill.specs.Making.{MakesFilled}
use Rattle.wu_schema.specs.Asking.{Asks}
use Rattle.wu_schema.specs.Calls.{Commits}
use Rattle.wu_schema.specs.Faults.{IsStoreFault}
use Rattle.wu_process.specs.Checks.{IsOpenedIn, IsUnopenedIn}
use Rattle.wu_process.specs.Closing.{IsClosedInto, IsLeftUnclosed}
use Rattle.wu_process.specs.Copies.{AreCopiedFrom}
use Rattle.wu_process.specs.MemoryFiles.{bytes_held, memory_disk}
use Rattle.wu_process.specs.declared.backup.Checked.{Checked}
use Rattle.wu_process.specs.declared.backup.Folded.{Folded}

-- A new file may have any bytes: no clause can say what is at a path.
abbrev pub may_become : List ℕ → List ℕ → Type 0
may_become path bytes = ⊤

-- The world of a sound project with these numbers was loaded, if a new file can be made of it; or it was not. A fault of
-- the store is reported.
pub record LoadsWorld {S : Type 0} (g : StoreGhosts S) (old new : Held S) (its : Counts) (done : Result Checked Trouble) : Type 0 where
  pub world : Result (Option World) Fault
  pub asks : Asks g old new world
  pub fault : IfErr world IsStoreFault
  pub found : FindsAlone g old new world
  pub gives : MatchResult world (λ it. done ≡ Ok (record { counts = its; world = it })) (λ fault. done ≡ Err (trouble.Fault fault))

-- The open database is checked. Of a sound project the numbers are returned, and the world, if it was loaded. Else the
-- trouble is why not.
pub record ChecksSound {S : Type 0} (g : StoreGhosts S) (old new : Held S) (done : Result Checked Trouble) : Type 0 where
  pub mid : Held S
  pub counts : Result Counts Trouble
  pub checks : CountsSound g old mid counts
  pub loads : MatchResult counts (λ its. LoadsWorld g mid new its done) (λ told. done ≡ Err told)

-- What was found of a sound project goes with its files. A failed close is reported as out of memory or a failed copy.
abbrev pub GoesWith : {D : Type 0} → Checked → Result (Files D) Error → Result (Folded D) Trouble → Type 0
GoesWith checked (Ok its) done = done ≡ Ok (record { files = its; checked = checked })
GoesWith checked (Err error) done = done ≡ Err (trouble.Unchecked (reason_of_copy error))

-- In an open database with none of a project's tables, a project with this world was made and committed.
abbrev pub IsFilled : {S : Type 0} → StoreGhosts S → Held S → World → Held S → Type 0
IsFilled g old world new = Commits {T = Unit {0}} {E = Fault} g old new (Ok (tt {0})) (MakesFilled world)

module _ {D : Type 0} {g : Ghosts D} where
  -- The database was closed into these files; or its close failed, with this error.
  abbrev pub ClosesFiles : Held (FileStore D g) → Result (Files D) Error → Type 0
  ClosesFiles conn (Ok files) = IsClosedInto conn files
  ClosesFiles conn (Err error) = (last : FileStore D g) × IsLeftUnclosed conn error last

  -- A sound project was closed into these files; or its close failed, which is reported as out of memory or a failed
  -- copy.
  abbrev pub ClosesFolded : Held (FileStore D g) → Checked → Result (Folded D) Trouble → Type 0
  ClosesFolded conn checked (Ok it) = (it.checked ≡ checked) × IsClosedInto conn it.files
  ClosesFolded conn checked (Err told) =
      (error : Error) × (last : FileStore D g) × (told ≡ trouble.Unchecked (reason_of_copy error)) × IsLeftUnclosed conn error last

  -- An open database is checked. If it is a sound project, it is closed; else the trouble is why not.
  pub record Folds (conn : Held (FileStore D g)) (done : Result (Folded D) Trouble) : Type 0 where
    pub again : Held (FileStore D g)
    pub checked : Result Checked Trouble
    pub checks : ChecksSound over_files conn again checked
    pub ends : MatchResult checked (λ it. ClosesFolded again it done) (λ told. done ≡ Err told)

  -- In an open database a project with this world was made, and it was closed into these files.
  pub record IsFilledInto (conn : Held (FileStore D g)) (world : World) (files : Files D) : Type 0 where
    pub again : Held (FileStore D g)
    pub fills : IsFilled over_files conn world again
    pub closed : IsClosedInto again files

module _ {D : Type 0} (g : Ghosts D) where
  -- The database in the files is opened, checked and closed; or it cannot be opened.
  abbrev pub FoldsFiles : Files D → Result (Folded D) Trouble → Type 0
  FoldsFiles files done =
      ((conn : Held (FileStore D g)) × IsOpenedIn files conn × Folds conn done) ⊎ ((told : Trouble) × IsUnopenedIn g files told × (done ≡ Err told))

-- These files are those of a new database that was opened in two empty files, and has this world and nothing else.
pub record IsFilledWith (world : World) (files : Files MemoryFile) : Type 0 where
  pub empty : Files MemoryFile
  pub blank : (bytes_held empty.log ≡ []) × (bytes_held empty.db ≡ [])
  pub conn : Held (FileStore MemoryFile memory_disk)
  pub opened : IsOpenedIn empty conn
  pub fills : IsFilledInto conn world files

-- These files are those of a new database with the world, if one was loaded.
abbrev pub IsRefillOf : Option World → Files MemoryFile → Type 0
IsRefillOf loaded files = (world : World) × (loaded ≡ Some world) × IsFilledWith world files

module _ (makes : List ℕ → List ℕ → Type 0) where
  -- The new file has the bytes of this one, and these numbers are returned; or it is not made, for this reason.
  abbrev pub MakesFile : List ℕ → Files MemoryFile → Counts → Result Counts Trouble → Type 0
  MakesFile to files counts (Ok told) = makes to (bytes_held files.db) × (told ≡ counts)
  MakesFile to files counts (Err told) = (why : Unmade) × (told ≡ trouble.Unmade why)

  -- The new file has the bytes of the one that was closed, or of a new database with the world that was loaded. The
  -- numbers are those of the check.
  pub record BecomesFile (to : List ℕ) (folded : Folded MemoryFile) (made : Result Counts Trouble) : Type 0 where
    pub files : Files MemoryFile
    pub source : (files ≡ folded.files) ⊎ IsRefillOf folded.checked.world files
    pub makes_file : MakesFile to files folded.checked.counts made

  -- What became of the copy: its new file, or the trouble that kept it from one.
  abbrev pub EndsBackup : List ℕ → Result (Folded MemoryFile) Trouble → Result Counts Trouble → Type 0
  EndsBackup to (Ok folded) made = BecomesFile to folded made
  EndsBackup to (Err told) made = made ≡ Err told

  -- These bytes were read of the files at the path. A copy with exactly these bytes is checked and closed, and becomes
  -- the new file, whose path names no log.
  pub record MakesOfCopy (path to : List ℕ) (made : Result Counts Trouble) : Type 0 where
    pub own_name : names_log to ≡ false
    pub files : Files MemoryFile
    pub copy : AreCopiedFrom path files
    pub folded : Result (Folded MemoryFile) Trouble
    pub folds : FoldsFiles memory_disk files folded
    pub ends : EndsBackup to folded made

  -- The files cannot be read or copied, for this reason; or no file can be made at the path.
  abbrev pub IsUnbegun : Result Counts Trouble → Type 0
  IsUnbegun made = ((reason : Reason) × (made ≡ Err (trouble.Unchecked reason))) ⊎ ((why : Unmade) × (made ≡ Err (trouble.Unmade why)))

  -- A new file is made of the database at the path, or it is not made.
  abbrev pub MakesBackup : List ℕ → List ℕ → Result Counts Trouble → Type 0
  MakesBackup path to made = MakesOfCopy path to made ⊎ IsUnbegun made
