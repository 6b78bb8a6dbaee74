-- What a run of the program leaves of its database, and where the next run begins.
use Rattle.std.proofs.Common.{subst}
use Rattle.std.specs.Prelude.{◌≡◌, ◌⊎◌, ◌+◌, ◌≤◌, ℕ, List, [], length, take, Option, None, Some}
use Rattle.sqlite.specs.declared.error.Error.{Error}
use Rattle.sqlite_disk.specs.declared.Disk.{Ghosts}
use Rattle.sqlite_disk.specs.declared.Files.{Files}
use Rattle.sqlite_disk.specs.declared.calls.Calls as calls
use Rattle.sqlite_disk.specs.declared.modelled.Modelled.{Modelled}
use Rattle.sqlite_disk.specs.declared.start.Start as start
use Rattle.sqlite_std_file.specs.declared.host.Host.{Host}
use Rattle.sqlite_store.specs.FileStore.{files as store_files}
use Rattle.sqlite_store.specs.declared.store.FileStore.{FileStore}
use Rattle.sqlite_wal.specs.Files.{image_at, outcomes}
use Rattle.sqlite_wal.specs.Reads.{AreClean}
use Rattle.sqlite_wal.specs.Recovery.{Image}
use Rattle.wu_core.specs.World.{World, empty_world}
use Rattle.wu_core.specs.declared.fault.Fault.{Fault}
use Rattle.wu_drive.specs.Driving.{AnswerAll, world_after}
use Rattle.wu_drive.specs.Writing.{WritesAnswers}
use Rattle.wu_machine.specs.Sound.{IsProject}
use Rattle.wu_machine.specs.declared.command.Answer.{Answer}
use Rattle.wu_machine.specs.declared.command.Command.{Command}
use Rattle.wu_passes.specs.Adopting.{IsAdoptionFault}
use Rattle.wu_arguments.specs.Statuses.{fault_status}
use Rattle.wu_arguments.specs.declared.action.Action.TheVariants.{Commands, Look, Refused}
use Rattle.wu_arguments.specs.declared.step.LineFault.{LineFault}
use Rattle.wu_report.specs.Texts.{view_text}
use Rattle.std.specs.Io.KnownBytes.{Appends}
use Rattle.wu_report.specs.Writing.{AppendsFront}
use Rattle.wu_cli.specs.Repeating.{unrolled}
use Rattle.wu_cli.specs.Telling.{TellsSteps}
use Rattle.wu_cli.specs.Trying.{RanStep}
use Rattle.wu_cli.specs.Working.{commands_of_work, WorkRanAs}
use Rattle.wu_cli.specs.declared.work.Work.{Work}
use Rattle.wu_cli.specs.declared.work.Work.TheVariants as work
use Rattle.wu_stops.specs.Closing.{IsNumbered}
use Rattle.wu_stops.specs.Beginning.{HoldsWorld}
use Rattle.wu_process.specs.Running.{Obeys, RunsAsked, RunsWords}
use Rattle.wu_process.specs.declared.End.{End}
use Rattle.wu_process.specs.declared.database.LeftDatabase.TheVariants as left

-- The files hold the tables of this world; or the database has no byte, and the world is the empty one.
abbrev pub ImageRefines : Image → World → Type 0
ImageRefines image world = HoldsWorld image world ⊎ ((image.db ≡ []) × (world ≡ empty_world))

-- The files hold the machine's world after the first so many commands: in order, none skipped and none in part. Further
-- commands may run over that world.
pub record HoldAfter (world : World) (commands : List Command) (count : ℕ) (image : Image) : Type 0 where
  pub held : HoldsWorld image (world_after world commands count)
  pub project : IsProject (world_after world commands count)

-- The files hold the world after so many commands, or after one more.
pub record HoldAfterOneMore (world : World) (commands : List Command) (count : ℕ) (image : Image) : Type 0 where
  pub kept : ℕ
  pub within : kept ≤ length commands
  pub has_done : count ≤ kept
  pub at_most_one_more : kept ≤ count + 1
  pub after : HoldAfter world commands kept image

-- A property of an image of the files, after so many commands.
abbrev pub Holds : Type 1
Holds = World → List Command → ℕ → Image → Type 0

module _ {D : Type 0} (g : Ghosts D) (files : Files D) where
  -- This holds of each image of the files that a crash may leave.
  abbrev pub OfEachImage : (Image → Type 0) → Type 0
  OfEachImage holds = (image : Image) → outcomes g files.log files.db image → ∥ holds image ∥₁

  -- No project was adopted, for this fault, and the status is that fault's. Nothing went out, and a world that the files
  -- held they hold still.
  pub record LeavesAsItWas (first : Image) (before after : Option (List ℕ)) (world : World) (status : ℕ) : Type 0 where
    pub fault : Fault
    pub told : status ≡ fault_status fault
    pub why : IsAdoptionFault fault
    pub unwritten : after ≡ before
    pub held : HoldsWorld first world → OfEachImage (λ image. HoldsWorld image world)

-- With success all of the text went out, and else a prefix of it.
abbrev pub TellsText : Option (List ℕ) → Option (List ℕ) → Type 0 → List ℕ → Type 0
TellsText before after Success text = AppendsFront before after text × (Success → Appends before after text)

-- What went out reports as many commands as were done. Of a line, these are the texts of the answers, the last one cut
-- only with `Output`. Of a script, these are the texts of its steps, up to the one that ended it. Of a view, this is a
-- prefix. With success no text is cut.
abbrev pub TellsDone : Option (List ℕ) → Option (List ℕ) → Type 0 → World → Work → List RanStep → List Answer → ℕ → Type 0
TellsDone before after Success world (work.Line (Commands commands)) ran answers count =
    (end : Option Fault) × (Success → end ≡ None) × WritesAnswers before after answers (record { acknowledged = count; end = end })
TellsDone before after Success world (work.Line (Look view)) ran answers count = TellsText before after Success (view_text world view)
TellsDone before after Success world (work.Line (Refused fault)) ran answers count = TellsText before after Success []
TellsDone before after Success world (work.Script script) ran answers count =
    (end : Option LineFault) × (Success → end ≡ None) × TellsSteps before after world (unrolled world ran) count end

module _ {D : Type 0} (g : Ghosts D) (files : Files D) (says : Holds) (before after : Option (List ℕ)) where
  -- So many commands of the work, as its steps ran, were done in order, each with the machine's reply; with status 0 all
  -- were. This property holds of each image of the files that a crash may leave.
  pub record LeavesDone (world : World) (asked : Work) (status : ℕ) : Type 0 where
    pub ran : List RanStep
    pub are : WorkRanAs asked ran
    pub count : ℕ
    pub within : count ≤ length (commands_of_work world asked ran)
    pub answers : List Answer
    pub answered : AnswerAll world (take count (commands_of_work world asked ran)) answers
    pub told : TellsDone before after (status ≡ 0) world asked ran answers count
    pub whole : status ≡ 0 → count ≡ length (commands_of_work world asked ran)
    pub held : OfEachImage g files (says world (commands_of_work world asked ran) count)

  -- Over this world, so much of the work was done; or no project was adopted.
  abbrev pub LeavesWork : Image → World → Work → ℕ → Type 0
  LeavesWork first world asked status = LeavesDone world asked status ⊎ LeavesAsItWas g files first before after world status

  -- If the disk is clean at the end, this holds of each world of a project that the files held at first.
  abbrev pub LeavesBeginning : Image → Work → ℕ → Type 0
  LeavesBeginning first asked status =
      AreClean g files.log files.db → (world : World) → IsProject world → ImageRefines first world → LeavesWork first world asked status

-- ---- one run

-- A close that failed: the store that it left, and the two files.
pub record FailedClose {S : Type 0} {c : calls.Ghosts Host} {s : start.Ghosts S} {g : Ghosts (Modelled Host S c s)} (end : End (Modelled Host S c s) g) : Type 0 where
  pub error : Error
  pub store : FileStore (Modelled Host S c s) g
  pub unclosed : end.left ≡ Some (left.Unclosed error store)
  pub numbered : IsNumbered store
  pub files : Files (Modelled Host S c s)
  pub files_are : (files.log, files.db) ≡ store_files store

module _ {S W E : Type 0} {c : calls.Ghosts Host} {s : start.Ghosts S} {g : Ghosts (Modelled Host S c s)} (contents : W → Option (List ℕ)) (told_of : E → Option (List ℕ)) where
  -- A run that ended so and closed its database: its words and outputs, and the two files.
  pub record ClosedRun (end : End (Modelled Host S c s) g) : Type 0 where
    pub words : List (List ℕ)
    pub old : W
    pub new : W
    pub err_old : E
    pub err_new : E
    pub obeys : Obeys contents told_of words old new err_old err_new end
    pub files : Files (Modelled Host S c s)
    pub closed : end.left ≡ Some (left.Closed files)

  -- A run that ended so and whose close failed, as after a failed disk: its words and outputs, and what the close left.
  pub record UnclosedRun (end : End (Modelled Host S c s) g) : Type 0 where
    pub words : List (List ℕ)
    pub old : W
    pub new : W
    pub err_old : E
    pub err_new : E
    pub obeys : Obeys contents told_of words old new err_old err_new end
    pub close : FailedClose end

  -- How the run opened its database and did what its words ask for.
  abbrev pub done_by : (end : End (Modelled Host S c s) g) → (run : ClosedRun end) → RunsAsked {g = g} contents run.words run.old run.new run.obeys.done (left.Closed run.files)
  done_by end run = subst (λ l. RunsWords {g = g} contents run.words run.old run.new run.obeys.done l) run.closed run.obeys.runs

  abbrev pub done_by_unclosed : (end : End (Modelled Host S c s) g) → (run : UnclosedRun end) → RunsAsked {g = g} contents run.words run.old run.new run.obeys.done (left.Unclosed run.close.error run.close.store)
  done_by_unclosed end run = subst (λ l. RunsWords {g = g} contents run.words run.old run.new run.obeys.done l) run.close.unclosed run.obeys.runs

  -- Over this world, the files hold a prefix of the work, and no more; or no project was adopted.
  abbrev pub LeavesWorkOver : (end : End (Modelled Host S c s) g) → ClosedRun end → World → Type 0
  LeavesWorkOver end run world = LeavesWork g run.files HoldAfter (contents run.old) (contents (done_by end run).runs.mid) (image_at s) world (done_by end run).work end.status

  -- The files hold a prefix of the work that was done, and no more. What went out before the exports of a script reports
  -- it.
  abbrev pub LeavesItsDone : (end : End (Modelled Host S c s) g) → ClosedRun end → Type 0
  LeavesItsDone end run = LeavesBeginning g run.files HoldAfter (contents run.old) (contents (done_by end run).runs.mid) (image_at s) (done_by end run).work end.status

  abbrev pub LeavesItsWork : End (Modelled Host S c s) g → Type 0
  LeavesItsWork end = (run : ClosedRun end) → LeavesItsDone end run

  -- The files hold what was done, and at most the one command that was cut.
  abbrev pub LeavesItsDoneOrMore : (end : End (Modelled Host S c s) g) → UnclosedRun end → Type 0
  LeavesItsDoneOrMore end run = LeavesBeginning g run.close.files HoldAfterOneMore (contents run.old) (contents (done_by_unclosed end run).runs.mid) (image_at s) (done_by_unclosed end run).work end.status

  abbrev pub LeavesItsWorkUnclosed : End (Modelled Host S c s) g → Type 0
  LeavesItsWorkUnclosed end = (run : UnclosedRun end) → LeavesItsDoneOrMore end run
