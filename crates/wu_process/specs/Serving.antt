-- A session of the program, from its words to what it leaves of the database.
use Rattle.std.specs.Prelude.{◌≡◌, ℕ, true, List, Option, Some, None, Result, Ok, Err, IfErr}
use Rattle.sqlite_disk.specs.declared.Disk.{Ghosts}
use Rattle.sqlite_disk.specs.declared.calls.Calls as calls
use Rattle.sqlite_disk.specs.declared.modelled.Modelled.{Modelled}
use Rattle.sqlite_disk.specs.declared.start.Start as start
use Rattle.sqlite_std_file.specs.declared.host.Host.{Host}
use Rattle.sqlite_store.specs.declared.store.FileStore.{FileStore}
use Rattle.sqlite_wal.specs.Files.{image_at}
use Rattle.sqlite.specs.Files.{over_files}
use Rattle.sqlite.specs.Held.{Held}
use Rattle.sqlite.specs.declared.error.Error.{Error}
use Rattle.sqlite.specs.declared.file.Leftover.{Leftover}
use Rattle.wu_schema.specs.Faults.{fault_of}
use Rattle.wu_arguments.specs.Refusals.{IsOrderOf}
use Rattle.wu_arguments.specs.declared.order.Order.TheVariants as order
use Rattle.wu_cli.specs.Sessions.{ServesOver}
use Rattle.wu_cli.specs.Troubles.{trouble_of_opening}
use Rattle.wu_cli.specs.declared.trouble.Trouble.{Trouble}
use Rattle.wu_process.specs.Asking.{may_hold}
use Rattle.wu_process.specs.Backups.{may_become}
use Rattle.wu_process.specs.Exports.{MakesExport}
use Rattle.wu_process.specs.Closing.{IsLeftByClose}
use Rattle.wu_process.specs.Opening.{IsBar, IsOpenedAt, IsUnopened}
use Rattle.wu_process.specs.Running.{EndsSo, RunsWords}
use Rattle.wu_process.specs.declared.database.LeftDatabase.{LeftDatabase}
use Rattle.wu_process.specs.declared.database.LeftDatabase.TheVariants as left
use Rattle.wu_process.specs.declared.End.{End}
use Rattle.wu_process.specs.declared.Ran.{Ran}
use Rattle.wu_process.specs.declared.Ran.TheVariants as ran

module _ {S W : Type 0} {c : calls.Ghosts Host} {s : start.Ghosts S} {g : Ghosts (Modelled Host S c s)} (contents : W → Option (List ℕ)) where
  -- The database of this path is opened, over two files that held what the start says. The lines of the input are
  -- answered over it, and it is closed.
  pub record ServesOpened (path : List ℕ) (old new : W) (in_old in_new : Option (List ℕ)) (done : Result ℕ Trouble) (left : LeftDatabase (Modelled Host S c s) g) : Type 0 where
    pub conn : Held (FileStore (Modelled Host S c s) g)
    pub opened : IsOpenedAt path (image_at s) conn
    pub again : Held (FileStore (Modelled Host S c s) g)
    pub serves : ServesOver over_files contents may_hold (MakesExport may_become may_become) path conn again old new in_old in_new done
    pub closed : IsLeftByClose again left

  -- It cannot be opened: the trouble of that is returned, no line is read, and nothing goes out.
  pub record ServesUnopened (path : List ℕ) (old new : W) (in_old in_new : Option (List ℕ)) (done : Result ℕ Trouble) (error : Error) (rest : Option (Leftover (Modelled Host S c s) g)) : Type 0 where
    pub unopened : IsUnopened path error rest
    pub told : done ≡ Err (trouble_of_opening (fault_of error))
    pub unwritten : new ≡ old
    pub unread : in_new ≡ in_old

  abbrev pub OpensAndServes : List ℕ → W → W → Option (List ℕ) → Option (List ℕ) → Result ℕ Trouble → LeftDatabase (Modelled Host S c s) g → Type 0
  OpensAndServes path old new in_old in_new done (left.Unopened error rest) = ServesUnopened path old new in_old in_new done error rest
  OpensAndServes path old new in_old in_new done other = ServesOpened path old new in_old in_new done other

  -- A session is held over the database of this path; or that is not opened, because of what lies there.
  abbrev pub ServesAt : List ℕ → W → W → Option (List ℕ) → Option (List ℕ) → Result ℕ Trouble → Option (LeftDatabase (Modelled Host S c s) g) → Type 0
  ServesAt path old new in_old in_new done (Some left) = OpensAndServes path old new in_old in_new done left
  ServesAt path old new in_old in_new done None = (told : Trouble) × IsBar told × (done ≡ Err told) × (new ≡ old) × (in_new ≡ in_old)

  -- What was done for the words of a process. Only a session reads the input, and writes to the second output meanwhile.
  abbrev pub RanFor : {E : Type 0} → List (List ℕ) → W → W → E → E → Option (List ℕ) → Option (List ℕ) → Ran (Modelled Host S c s) g → Type 0
  RanFor words old new err_old err_new in_old in_new (ran.Done done left) = RunsWords contents words old new done left × (err_new ≡ err_old) × (in_new ≡ in_old)
  RanFor words old new err_old err_new in_old in_new (ran.Served done left) = (path : List ℕ) × IsOrderOf words (order.Session path) × ServesAt path old new in_old in_new done left × IfErr done (λ _. err_new ≡ err_old)

module _ {D E : Type 0} {g : Ghosts D} (told_of : E → Option (List ℕ)) where
  -- The session of a process ends with the status that it gave, or with the trouble that kept it from its first line.
  abbrev pub EndsServed : E → E → Result ℕ Trouble → Option (LeftDatabase D g) → End D g → Type 0
  EndsServed err_old err_new (Ok status) left end = (end.status ≡ status) × (err_new ≡ err_old) × (end.is_told ≡ true) × (end.left ≡ left)
  EndsServed err_old err_new (Err trouble) left end = EndsSo told_of err_old err_new (Err trouble) left end

  -- What was done ends so, with its trouble reported.
  abbrev pub EndsRan : E → E → Ran D g → End D g → Type 0
  EndsRan err_old err_new (ran.Done done left) end = EndsSo told_of err_old err_new done left end
  EndsRan err_old err_new (ran.Served done left) end = EndsServed err_old err_new done left end

module _ {S W : Type 0} {c : calls.Ghosts Host} {s : start.Ghosts S} {g : Ghosts (Modelled Host S c s)} (contents : W → Option (List ℕ)) where
  -- The words ask for a session, and it is held. What goes to the second output while lines are answered is not stated.
  pub record HoldsSession {E : Type 0} (told_of : E → Option (List ℕ)) (words : List (List ℕ)) (old new : W) (err_old err_new : E) (in_old in_new : Option (List ℕ)) (end : End (Modelled Host S c s) g) : Type 0 where
    pub path : List ℕ
    pub ordered : IsOrderOf words (order.Session path)
    pub done : Result ℕ Trouble
    pub runs : ServesAt contents path old new in_old in_new done end.left
    pub err_mid : E
    -- Where no line was read, nothing went there before the trouble of that.
    pub silent : IfErr done (λ _. err_mid ≡ err_old)
    pub ends : EndsServed told_of err_mid err_new done end.left end
