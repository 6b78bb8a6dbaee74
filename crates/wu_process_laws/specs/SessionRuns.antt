-- What a session of the program leaves of its database: what its lines did, one after another.
use Rattle.std.specs.Prelude.{◌≡◌, ◌⊎◌, ◌≤◌, ℕ, Bool, List, [], ◌∷◌, ◌++◌, drop, length, map, take, Option, None, Some, Result, Ok, Err, ◌+◌}
use Rattle.sqlite_disk.specs.declared.Disk.{Ghosts}
use Rattle.sqlite_disk.specs.declared.Files.{Files}
use Rattle.sqlite_disk.specs.declared.calls.Calls as calls
use Rattle.sqlite_disk.specs.declared.modelled.Modelled.{Modelled}
use Rattle.sqlite_disk.specs.declared.start.Start as start
use Rattle.sqlite_std_file.specs.declared.host.Host.{Host}
use Rattle.sqlite_wal.specs.Files.{image_at, outcomes}
use Rattle.sqlite_wal.specs.Reads.{AreClean}
use Rattle.wu_core.specs.World.{World}
use Rattle.wu_core.specs.declared.fault.Fault.{Fault}
use Rattle.wu_drive.specs.Driving.{AnswerAll, world_after}
use Rattle.wu_machine.specs.Commands.{request_of}
use Rattle.wu_machine.specs.Machine.{fold_steps}
use Rattle.wu_machine.specs.Sound.{IsProject}
use Rattle.wu_machine.specs.declared.command.Answer.{Answer}
use Rattle.wu_machine.specs.declared.command.Command.{Command}
use Rattle.wu_passes.specs.Adopting.{older_than_present}
use Rattle.wu_report.specs.Writing.{WritesTo}
use Rattle.wu_arguments.specs.declared.refusal.Refusal.{Refusal}
use Rattle.wu_arguments.specs.declared.step.LineFault.{LineFault}
use Rattle.wu_arguments.specs.declared.step.Script.{Script}
use Rattle.wu_arguments.specs.declared.step.Step.{Step}
use Rattle.wu_cli.specs.Answering.{end_text}
use Rattle.wu_cli.specs.Exports.{SaysOfExport}
use Rattle.wu_cli.specs.Hearing.{Hears, IsUnread}
use Rattle.wu_cli.specs.Repeating.{commands_of_steps, RanAs, unrolled}
use Rattle.wu_cli.specs.Sessions.{ExportsThen, ready_line, ScriptOfText}
use Rattle.wu_cli.specs.Telling.{TellsSteps}
use Rattle.wu_cli.specs.Trying.{RanStep}
use Rattle.wu_cli.specs.Working.{commands_of_work}
use Rattle.wu_cli.specs.declared.line_trouble.LineTrouble.{LineTrouble}
use Rattle.wu_cli.specs.declared.line_trouble.LineTrouble.TheVariants as line
use Rattle.wu_process.specs.Asking.{may_hold}
use Rattle.wu_process.specs.Backups.{may_become}
use Rattle.wu_process.specs.Exports.{MakesExport}
use Rattle.wu_process.specs.Serving.{HoldsSession}
use Rattle.wu_process.specs.declared.End.{End}
use Rattle.wu_process.specs.declared.database.LeftDatabase.TheVariants as left
use Rattle.wu_stops.specs.Beginning.{HoldsWorld}
use Rattle.wu_process_laws.specs.Runs.{ClosedRun, done_by, done_by_unclosed, FailedClose, HoldAfter, HoldAfterOneMore, Holds, ImageRefines, LeavesAsItWas, LeavesDone, LeavesWorkOver, OfEachImage, UnclosedRun}

-- ---- one line

module _ {W : Type 0} (contents : W → Option (List ℕ)) where
  -- The steps of a line did these commands over a world, and not those: a prefix of all of theirs, in order, and the
  -- rest. What went out reports as many as were done. Without a fault all were done.
  pub record StepsDid (world : World) (out_old out_new : W) (steps : List Step) (end : Option LineFault) (commands undone : List Command) : Type 0 where
    pub ran : List RanStep
    pub are : RanAs steps ran
    pub count : ℕ
    pub within : count ≤ length (commands_of_steps world (unrolled world ran))
    pub did : commands ≡ take count (commands_of_steps world (unrolled world ran))
    pub left_out : undone ≡ drop count (commands_of_steps world (unrolled world ran))
    pub told : TellsSteps (contents out_old) (contents out_new) world (unrolled world ran) count end
    pub whole : end ≡ None → count ≡ length (commands_of_steps world (unrolled world ran))

module _ (gives : List ℕ → ℕ → Option (List ℕ) → Type 0) (db : List ℕ) where
  -- What a heard line asks for, or why it is refused.
  abbrev pub AsksOfHeard : Result (List ℕ) Refusal → Result Script Refusal → Type 0
  AsksOfHeard (Ok text) asked = ScriptOfText gives db text asked
  AsksOfHeard (Err why) asked = asked ≡ Err why

module _ {W : Type 0} (contents : W → Option (List ℕ)) (gives : List ℕ → ℕ → Option (List ℕ) → Type 0) (exports : SaysOfExport) (db : List ℕ) where
  -- The steps of a line did these commands over a world, and after steps without a fault its exports were made. A
  -- refused line did nothing.
  abbrev pub AskedDid : World → W → W → Result Script Refusal → Result Bool LineTrouble → List Command → List Command → Type 0
  AskedDid world out_old out_new (Ok script) done commands undone =
      (end : Option LineFault) × (out_mid : W) × StepsDid contents world out_old out_mid script.steps end commands undone × ExportsThen contents exports db script end out_mid out_new done
  AskedDid world out_old out_new (Err why) done commands undone = (done ≡ Err (line.Refused why)) × (commands ≡ []) × (undone ≡ []) × (out_new ≡ out_old)

  -- A heard line did these commands over a world, and not those. The line that ends its answer then went out, or a
  -- prefix of it. That is `= 0` only if all commands of the line were done.
  pub record LineDid (world : World) (out_old out_new : W) (heard : Result (List ℕ) Refusal) (commands undone : List Command) (told : Result (Unit {0}) Fault) : Type 0 where
    pub asked : Result Script Refusal
    pub asks : AsksOfHeard gives db heard asked
    pub done : Result Bool LineTrouble
    pub out_done : W
    pub does : AskedDid world out_old out_done asked done commands undone
    pub wrote : WritesTo contents out_done out_new (end_text done) told

  -- ---- line by line

  -- Each heard line did its commands over the world that those before it left, and the line that ends its answer went
  -- out whole.
  abbrev pub LinesDid : World → W → W → List (Result (List ℕ) Refusal) → List Command → Type 0
  LinesDid world out_old out_new [] commands = (commands ≡ []) × (out_new ≡ out_old)
  LinesDid world out_old out_new (heard ∷ more) commands =
      (first : List Command) × (undone : List Command) × (rest : List Command) × (out_mid : W) × LineDid world out_old out_mid heard first undone (Ok tt)
      × LinesDid (fold_steps world (map request_of first)) out_mid out_new more rest × (commands ≡ first ++ rest)

  -- The last line that was heard did these commands, and not those, and the line that ends its answer may be cut. Or the
  -- input could not be read further, and why is reported so.
  pub record LastDid (world : World) (out_old out_new : W) (in_old in_new : Option (List ℕ)) (commands undone : List Command) : Type 0 where
    pub last : Result (List ℕ) Refusal
    pub told : Result (Unit {0}) Fault
    pub did : LineDid world out_old out_new last commands undone told
    pub heard : Hears in_old in_new (last ∷ []) ⊎ ((why : Refusal) × IsUnread why × (last ≡ Err why))

  -- No further line was heard, or a last one.
  abbrev pub EndDid : World → W → W → Option (List ℕ) → Option (List ℕ) → List Command → List Command → Type 0
  EndDid world out_old out_new in_old in_new commands undone =
      ((commands ≡ []) × (undone ≡ []) × (out_new ≡ out_old) × Hears in_old in_new []) ⊎ LastDid world out_old out_new in_old in_new commands undone

  -- The lines of the input, none left out and none twice, did these commands over a world, one after another. The last
  -- one did not do those.
  pub record InputDid (world : World) (out_old out_new : W) (in_old in_new : Option (List ℕ)) (commands undone : List Command) : Type 0 where
    pub heard : List (Result (List ℕ) Refusal)
    pub in_mid : Option (List ℕ)
    pub hears : Hears in_old in_mid heard
    pub first : List Command
    pub out_mid : W
    pub each : LinesDid world out_old out_mid heard first
    pub last : List Command
    pub end : EndDid (fold_steps world (map request_of first)) out_mid out_new in_mid in_new last undone
    pub all : commands ≡ first ++ last

-- ---- what that leaves

module _ {D W : Type 0} (g : Ghosts D) (files : Files D) (says : Holds) (contents : W → Option (List ℕ)) (gives : List ℕ → ℕ → Option (List ℕ) → Type 0) (exports : SaysOfExport) (db : List ℕ) where
  -- A session began over a world, whose version its first line told. The lines of its input did these commands, each
  -- with the machine's reply, and the last one did not do those. This property holds of each image of the files that a
  -- crash may leave, after so many of all of these.
  pub record LeavesSession (world : World) (out_old out_new : W) (in_old in_new : Option (List ℕ)) : Type 0 where
    pub is_new : Bool
    pub out_ready : W
    pub told : Result (Unit {0}) Fault
    pub ready : WritesTo contents out_old out_ready (ready_line (older_than_present world.version) is_new) told
    pub commands : List Command
    pub undone : List Command
    pub did : InputDid contents gives exports db world out_ready out_new in_old in_new commands undone
    pub answers : List Answer
    pub answered : AnswerAll world commands answers
    pub held : OfEachImage g files (says world (commands ++ undone) (length commands))

module _ {S W E : Type 0} {c : calls.Ghosts Host} {s : start.Ghosts S} {g : Ghosts (Modelled Host S c s)} (contents : W → Option (List ℕ)) (told_of : E → Option (List ℕ)) where
  -- A run that held a session and ended so: its words, outputs and input.
  pub record SessionRun (end : End (Modelled Host S c s) g) : Type 0 where
    pub words : List (List ℕ)
    pub old : W
    pub new : W
    pub err_old : E
    pub err_new : E
    pub in_old : Option (List ℕ)
    pub in_new : Option (List ℕ)
    pub session : HoldsSession contents told_of words old new err_old err_new in_old in_new end

  -- One that closed its database, and the two files.
  pub record ClosedSession (end : End (Modelled Host S c s) g) : Type 0 where
    pub run : SessionRun end
    pub files : Files (Modelled Host S c s)
    pub closed : end.left ≡ Some (left.Closed files)

  -- One whose close failed, as after a failed disk.
  pub record UnclosedSession (end : End (Modelled Host S c s) g) : Type 0 where
    pub run : SessionRun end
    pub close : FailedClose end

  -- Over this world, the files hold what the lines did; or no project was adopted.
  abbrev pub LeavesLines : (end : End (Modelled Host S c s) g) → SessionRun end → Files (Modelled Host S c s) → Holds → World → Type 0
  LeavesLines end run files says world =
      LeavesSession g files says contents may_hold (MakesExport may_become may_become) run.session.path world run.old run.new run.in_old run.in_new
      ⊎ LeavesAsItWas g files (image_at s) (contents run.old) (contents run.new) world end.status

  -- If the disk is clean at the end, this holds of each world of a project that the files held at first: they hold what
  -- the lines did, and no more. Or no project was adopted.
  abbrev pub LeavesItsLines : End (Modelled Host S c s) g → Type 0
  LeavesItsLines end =
      (it : ClosedSession end) → AreClean g it.files.log it.files.db → (world : World) → IsProject world → ImageRefines (image_at s) world
      → LeavesLines end it.run it.files HoldAfter world

  -- The same of a session whose close failed. The files hold at most one command more: the next one of the last line.
  abbrev pub LeavesItsLinesUnclosed : End (Modelled Host S c s) g → Type 0
  LeavesItsLinesUnclosed end =
      (it : UnclosedSession end) → AreClean g it.close.files.log it.close.files.db → (world : World) → IsProject world → ImageRefines (image_at s) world
      → LeavesLines end it.run it.close.files HoldAfterOneMore world

-- ---- one after another

module _ {S T W E : Type 0} {c d : calls.Ghosts Host} {s : start.Ghosts S} {t : start.Ghosts T} {g : Ghosts (Modelled Host S c s)} {h : Ghosts (Modelled Host T d t)} (contents : W → Option (List ℕ)) (told_of : E → Option (List ℕ))
    (first : End (Modelled Host S c s) g) (second : End (Modelled Host T d t) h) where
  -- The second run went on from this world, where the disk is clean at its end: a line or a script, or a session.
  pub record GoesOnFrom (world : World) : Type 0 where
    pub line : (two : ClosedRun contents told_of second) → AreClean h two.files.log two.files.db → LeavesWorkOver contents told_of second two world
    pub session : (two : ClosedSession contents told_of second) → AreClean h two.files.log two.files.db → LeavesLines contents told_of second two.run two.files HoldAfter world

  -- So from the world after so many of these commands, or after one more.
  pub record ResumesAfter (world : World) (commands : List Command) (count : ℕ) : Type 0 where
    pub kept : ℕ
    pub within : kept ≤ length commands
    pub has_done : count ≤ kept
    pub at_most_one_more : kept ≤ count + 1
    pub next : GoesOnFrom (world_after world commands kept)

  -- The second run went on from the world before the first, which adopted no project and so left these files.
  abbrev pub GoesFromFirst : Files (Modelled Host S c s) → Option (List ℕ) → Option (List ℕ) → Type 0
  GoesFromFirst files before after =
      (world : World) → IsProject world → HoldsWorld (image_at s) world → LeavesAsItWas g files (image_at s) before after world first.status → ∥ GoesOnFrom world ∥₁

  -- The second run went on from the world that a line or a script left: the one after what it did, or the one before it.
  pub record GoesAfterRun (one : ClosedRun contents told_of first) : Type 0 where
    pub done :
        (world : World) (it : LeavesDone g one.files HoldAfter (contents one.old) (contents (done_by contents told_of first one).runs.mid) world (done_by contents told_of first one).work first.status)
        → ∥ GoesOnFrom (world_after world (commands_of_work world (done_by contents told_of first one).work it.ran) it.count) ∥₁
    pub kept : GoesFromFirst one.files (contents one.old) (contents (done_by contents told_of first one).runs.mid)

  -- Likewise after one whose close failed; its cut command may be in the world that the second run goes on from.
  pub record GoesAfterStoppedRun (one : UnclosedRun contents told_of first) : Type 0 where
    pub done :
        (world : World) (it : LeavesDone g one.close.files HoldAfterOneMore (contents one.old) (contents (done_by_unclosed contents told_of first one).runs.mid) world (done_by_unclosed contents told_of first one).work first.status)
        → ∥ ResumesAfter world (commands_of_work world (done_by_unclosed contents told_of first one).work it.ran) it.count ∥₁
    pub kept : GoesFromFirst one.close.files (contents one.old) (contents (done_by_unclosed contents told_of first one).runs.mid)

  -- The second run went on from the world that a session left: the one after what its lines did, or the one before it.
  pub record GoesAfterSession (one : ClosedSession contents told_of first) : Type 0 where
    pub done :
        (world : World) (it : LeavesSession g one.files HoldAfter contents may_hold (MakesExport may_become may_become) one.run.session.path world one.run.old one.run.new one.run.in_old one.run.in_new)
        → ∥ GoesOnFrom (world_after world (it.commands ++ it.undone) (length it.commands)) ∥₁
    pub kept : GoesFromFirst one.files (contents one.run.old) (contents one.run.new)

  -- Likewise after one whose close failed.
  pub record GoesAfterStoppedSession (one : UnclosedSession contents told_of first) : Type 0 where
    pub done :
        (world : World) (it : LeavesSession g one.close.files HoldAfterOneMore contents may_hold (MakesExport may_become may_become) one.run.session.path world one.run.old one.run.new one.run.in_old one.run.in_new)
        → ∥ ResumesAfter world (it.commands ++ it.undone) (length it.commands) ∥₁
    pub kept : GoesFromFirst one.close.files (contents one.run.old) (contents one.run.new)

  -- If the second run begins over what a crash left of the first, it goes on from there, whichever of them is a session.
  pub record BeginsWhereOneEnded : Type 0 where
    pub after_run : (one : ClosedRun contents told_of first) → outcomes g one.files.log one.files.db (image_at t) → GoesAfterRun one
    pub after_stopped_run : (one : UnclosedRun contents told_of first) → outcomes g one.close.files.log one.close.files.db (image_at t) → GoesAfterStoppedRun one
    pub after_session : (one : ClosedSession contents told_of first) → outcomes g one.files.log one.files.db (image_at t) → GoesAfterSession one
    pub after_stopped_session : (one : UnclosedSession contents told_of first) → outcomes g one.close.files.log one.close.files.db (image_at t) → GoesAfterStoppedSession one
