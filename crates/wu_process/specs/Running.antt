-- A whole run of the program, from its words to its status and to what it leaves of the database.
use Rattle.std.specs.Prelude.{◌≡◌, ◌⊎◌, ℕ, Bool, true, List, Option, Some, None, Result, Ok, Err}
use Rattle.sqlite_disk.specs.declared.Disk.{Ghosts}
use Rattle.sqlite_disk.specs.declared.calls.Calls as calls
use Rattle.sqlite_disk.specs.declared.modelled.Modelled.{Modelled}
use Rattle.sqlite_disk.specs.declared.start.Start as start
use Rattle.sqlite_std_file.specs.declared.host.Host.{Host}
use Rattle.sqlite_store.specs.declared.store.FileStore.{FileStore}
use Rattle.sqlite_wal.specs.Files.{image_at}
use Rattle.sqlite.specs.Files.{over_files}
use Rattle.sqlite.specs.Held.{Held}
use Rattle.sqlite.specs.declared.error.Error.{Error}
use Rattle.sqlite.specs.declared.file.Leftover.{Leftover}
use Rattle.wu_schema.specs.Faults.{fault_of}
use Rattle.wu_arguments.specs.Refusals.{IsOrderOf}
use Rattle.wu_arguments.specs.declared.order.ExportOrder.{ExportOrder}
use Rattle.wu_arguments.specs.declared.order.LintOrder.{LintOrder}
use Rattle.wu_arguments.specs.declared.order.Order.{Order}
use Rattle.wu_arguments.specs.declared.order.Order.TheVariants as order
use Rattle.wu_arguments.specs.declared.order.Topic.{Topic}
use Rattle.wu_cli.specs.Endings.{WritesAll}
use Rattle.wu_cli.specs.Exports.{Exports, ExportsEach}
use Rattle.wu_cli.specs.Explaining.{ExplainsTopic}
use Rattle.wu_cli.specs.Linting.{Lints}
use Rattle.wu_cli.specs.Printing.{PrintsOver}
use Rattle.wu_cli.specs.Troubles.{trouble_of_opening, trouble_status, trouble_text}
use Rattle.wu_cli.specs.Working.{DoesOver, DrivesOver, exports_of_work}
use Rattle.wu_cli.specs.declared.trouble.Trouble.{Trouble}
use Rattle.wu_cli.specs.declared.work.Work.{Work}
use Rattle.wu_process.specs.Asking.{AsksFor, database_in, may_hold, RefusesWords}
use Rattle.wu_process.specs.Backups.{may_become}
use Rattle.wu_process.specs.Checks.{ChecksPath}
use Rattle.wu_process.specs.Closing.{IsLeftByClose}
use Rattle.wu_process.specs.Exports.{MakesExport}
use Rattle.wu_process.specs.Opening.{IsBar, IsOpenedAt, IsUnopened}
use Rattle.wu_process.specs.declared.database.LeftDatabase.{LeftDatabase}
use Rattle.wu_process.specs.declared.database.LeftDatabase.TheVariants as left
use Rattle.wu_process.specs.declared.End.{End}

-- Without a trouble the status is 0 and nothing is reported. With one the status is the trouble's, and its text or a
-- prefix of that goes out.
abbrev pub TellsTrouble : {W T : Type 0} → (W → Option (List ℕ)) → W → W → Result T Trouble → ℕ → Bool → Type 0
TellsTrouble contents old new (Ok done) status is_told = (status ≡ 0) × (new ≡ old) × (is_told ≡ true)
TellsTrouble contents old new (Err trouble) status is_told =
    (status ≡ trouble_status trouble) × WritesAll (contents old) (contents new) (trouble_text trouble) is_told

-- A run ends with the status of its trouble, which is reported, and with what is left of its database.
pub record EndsSo {D W : Type 0} {g : Ghosts D} (contents : W → Option (List ℕ)) (old new : W) (done : Result (Unit {0}) Trouble) (left : Option (LeftDatabase D g)) (end : End D g) : Type 0 where
  pub tells : TellsTrouble contents old new done end.status end.is_told
  pub same : end.left ≡ left

module _ {D W : Type 0} {g : Ghosts D} (contents : W → Option (List ℕ)) where
  -- The work is done over an open database, which is then closed.
  pub record DoesAndCloses (conn : Held (FileStore D g)) (work : Work) (old new : W) (done : Result (Unit {0}) Trouble) (left : LeftDatabase D g) : Type 0 where
    pub again : Held (FileStore D g)
    pub does : DoesOver over_files contents conn again old new work done
    pub drives : DrivesOver over_files conn again work done
    pub prints : PrintsOver over_files contents conn again old new work done
    pub closed : IsLeftByClose again left

-- Nothing is opened, which is reported, and nothing goes out.
abbrev pub Bars : {W : Type 0} → W → W → Result (Unit {0}) Trouble → Type 0
Bars old new done = (told : Trouble) × IsBar told × (done ≡ Err told) × (new ≡ old)

-- The words ask for work, and its database is not opened, because of what lies at its path or beside it.
pub record BarsWords (words : List (List ℕ)) (told : Trouble) : Type 0 where
  pub order : Order
  pub work : Work
  pub asked : AsksFor words order work
  pub barred : IsBar told

-- The words are refused, or their work is, or its database is not opened. That trouble is reported, and nothing goes out.
pub record RunsNothing {W : Type 0} (words : List (List ℕ)) (old new : W) (done : Result (Unit {0}) Trouble) : Type 0 where
  pub trouble : Trouble
  pub refused : RefusesWords words trouble ⊎ BarsWords words trouble
  pub told : done ≡ Err trouble
  pub unwritten : new ≡ old

module _ {W : Type 0} (contents : W → Option (List ℕ)) where
  -- The words ask for a check, for what is made of a copy, for an explanation, or for a reading of a file.
  abbrev pub RunsAside : List (List ℕ) → W → W → Result (Unit {0}) Trouble → Type 0
  RunsAside words old new done =
      ((path : List ℕ) × IsOrderOf words (order.Check path) × ChecksPath contents path old new done)
      ⊎ (((it : ExportOrder) × IsOrderOf words (order.Export it) × Exports contents (MakesExport may_become may_become) it.db it.export old new done)
      ⊎ (((topic : Topic) × IsOrderOf words (order.Explain topic) × ExplainsTopic contents old new done)
      ⊎ ((it : LintOrder) × IsOrderOf words (order.Lint it) × Lints may_hold contents it old new done)))

-- If all else of the work is done, its exports are made of the database at the path, and reported. Else its trouble is
-- returned, and nothing more goes out.
abbrev pub ExportsIfDone : {W : Type 0} → (W → Option (List ℕ)) → List ℕ → Work → W → W → Result (Unit {0}) Trouble → Result (Unit {0}) Trouble → Type 0
ExportsIfDone contents path work old new (Ok first) done = ExportsEach contents (MakesExport may_become may_become) path (exports_of_work work) old new done
ExportsIfDone contents path work old new (Err told) done = (done ≡ Err told) × (new ≡ old)

module _ {S W : Type 0} {c : calls.Ghosts Host} {s : start.Ghosts S} {g : Ghosts (Modelled Host S c s)} (contents : W → Option (List ℕ)) where
  -- The database of this path is opened, over two files that held what the start says, and the work is done over it.
  pub record DoesOpened (path : List ℕ) (work : Work) (old new : W) (done : Result (Unit {0}) Trouble) (left : LeftDatabase (Modelled Host S c s) g) : Type 0 where
    pub conn : Held (FileStore (Modelled Host S c s) g)
    pub opened : IsOpenedAt path (image_at s) conn
    pub does : DoesAndCloses contents conn work old new done left

  -- The database cannot be opened: that trouble is reported, and nothing goes out.
  pub record DoesUnopened (path : List ℕ) (old new : W) (done : Result (Unit {0}) Trouble) (error : Error) (rest : Option (Leftover (Modelled Host S c s) g)) : Type 0 where
    pub unopened : IsUnopened path error rest
    pub told : done ≡ Err (trouble_of_opening (fault_of error))
    pub unwritten : new ≡ old

  abbrev pub OpensAndDoes : List ℕ → Work → W → W → Result (Unit {0}) Trouble → LeftDatabase (Modelled Host S c s) g → Type 0
  OpensAndDoes path work old new done (left.Unopened error rest) = DoesUnopened path old new done error rest
  OpensAndDoes path work old new done other = DoesOpened path work old new done other

  -- The work is done over the database of this path, which is then closed. Then its exports are made.
  pub record OpensAndExports (path : List ℕ) (work : Work) (old new : W) (done : Result (Unit {0}) Trouble) (left : LeftDatabase (Modelled Host S c s) g) : Type 0 where
    pub mid : W
    pub first : Result (Unit {0}) Trouble
    pub does : OpensAndDoes path work old mid first left
    pub exports : ExportsIfDone contents path work mid new first done

  -- The work is done over the database of this path; or it is refused, or the database is not opened, and nothing goes
  -- out.
  abbrev pub RunsWork : List ℕ → Result Work Trouble → W → W → Result (Unit {0}) Trouble → Option (LeftDatabase (Modelled Host S c s) g) → Type 0
  RunsWork path (Ok work) old new done (Some left) = OpensAndExports path work old new done left
  RunsWork path (Ok work) old new done None = Bars old new done
  RunsWork path (Err trouble) old new done (Some left) = ⊥
  RunsWork path (Err trouble) old new done None = (done ≡ Err trouble) × (new ≡ old)

  -- The words ask for this work, and it is done over the database that they name.
  pub record RunsAsked (words : List (List ℕ)) (old new : W) (done : Result (Unit {0}) Trouble) (left : LeftDatabase (Modelled Host S c s) g) : Type 0 where
    pub order : Order
    pub work : Work
    pub asked : AsksFor words order work
    pub runs : OpensAndExports (database_in order) work old new done left

  -- A run leaves a database only if its words ask for work. Otherwise it is refused, a check, an export, an explanation,
  -- or a reading of a file.
  abbrev pub RunsWords : List (List ℕ) → W → W → Result (Unit {0}) Trouble → Option (LeftDatabase (Modelled Host S c s) g) → Type 0
  RunsWords words old new done (Some left) = RunsAsked words old new done left
  RunsWords words old new done None = RunsNothing words old new done ⊎ RunsAside contents words old new done

  -- What the words ask for is done up to the first trouble, which is reported with its status.
  pub record Obeys {E : Type 0} (told_of : E → Option (List ℕ)) (words : List (List ℕ)) (old new : W) (err_old err_new : E) (end : End (Modelled Host S c s) g) : Type 0 where
    pub done : Result (Unit {0}) Trouble
    pub runs : RunsWords words old new done end.left
    pub tells : TellsTrouble told_of err_old err_new done end.status end.is_told
