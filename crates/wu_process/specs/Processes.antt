-- What the program does with the words of its process: the demonstration, or what they ask for.
use Rattle.std.specs.Prelude.{◌≡◌, ◌<◌, ◌≤◌, ◌⊎◌, ℕ, true, List, map, None, Option, Result, Ok, Err, String, string_bytes, vec_len}
use Rattle.std.specs.IoError.{error_kind}
use Rattle.std.specs.declared.alloc.Global.{Global}
use Rattle.std.specs.declared.io.Error.{Error}
use Rattle.std.specs.declared.vec.Vec.{Vec}
use Rattle.sqlite_disk.specs.declared.Disk.{Ghosts}
use Rattle.sqlite_disk.specs.declared.calls.Calls as calls
use Rattle.sqlite_disk.specs.declared.modelled.Modelled.{Modelled}
use Rattle.sqlite_disk.specs.declared.start.Start as start
use Rattle.sqlite_std_file.specs.declared.host.Host.{Host}
use Rattle.wu_drive.specs.Demonstration.{IsDemonstrated}
use Rattle.wu_cli.specs.Troubles.{unheard}
use Rattle.wu_process.specs.Running.{Obeys, TellsTrouble}
use Rattle.wu_process.specs.Serving.{HoldsSession}
use Rattle.wu_process.specs.declared.End.{End}

-- With status 0, all that the demonstration prints went out. The only other status is 1.
abbrev pub Demonstrates : Option (List ℕ) → Option (List ℕ) → ℕ → Type 0
Demonstrates old new status = ((status ≡ 0) × IsDemonstrated old new) ⊎ (status ≡ 1)

-- No text of a trouble was owed, and the words named no database.
abbrev pub IsAlone : {D : Type 0} {g : Ghosts D} → End D g → Type 0
IsAlone end = (end.is_told ≡ true) × (end.left ≡ None)

module _ {S W E : Type 0} {c : calls.Ghosts Host} {s : start.Ghosts S} {g : Ghosts (Modelled Host S c s)} (contents : W → Option (List ℕ)) (told_of : E → Option (List ℕ)) (old new : W) (err_old err_new : E) (in_old in_new : Option (List ℕ)) (end : End (Modelled Host S c s) g) where
  -- Without a word after the program's name, the demonstration runs, opens no file and reports nothing; otherwise what
  -- the words ask for is done. Only a session reads the input.
  abbrev pub RunsGiven : Vec (String Global) Global → Type 0
  RunsGiven words =
      ((vec_len words ≤ 1) × Demonstrates (contents old) (contents new) end.status × (err_new ≡ err_old) × (in_new ≡ in_old) × IsAlone end)
      ⊎ ((1 < vec_len words)
      × ((Obeys contents told_of (map string_bytes words.items) old new err_old err_new end × (in_new ≡ in_old))
      ⊎ HoldsSession contents told_of (map string_bytes words.items) old new err_old err_new in_old in_new end))

  -- Words that the process cannot get are reported so, nothing is read or opened, and nothing goes out.
  abbrev pub RunsProcess : Result (Vec (String Global) Global) Error → Type 0
  RunsProcess (Ok words) = RunsGiven words
  RunsProcess (Err error) =
      TellsTrouble {T = Unit {0}} told_of err_old err_new (Err (unheard (error_kind error))) end.status end.is_told × (new ≡ old) × (in_new ≡ in_old) × (end.left ≡ None)

-- The process ends with the status of such a run. It is a run over some words, some outputs of these types, what it read
-- of some input, and any start of its database file.
pub record EndsAsRun {S W E : Type 0} {c : calls.Ghosts Host} {s : start.Ghosts S} (g : Ghosts (Modelled Host S c s)) (contents : W → Option (List ℕ)) (told_of : E → Option (List ℕ)) (status : ℕ) : Type 0 where
  pub words : Result (Vec (String Global) Global) Error
  pub old : W
  pub new : W
  pub err_old : E
  pub err_new : E
  pub in_old : Option (List ℕ)
  pub in_new : Option (List ℕ)
  pub end : End (Modelled Host S c s) g
  pub runs : RunsProcess contents told_of old new err_old err_new in_old in_new end words
  pub same : status ≡ end.status
