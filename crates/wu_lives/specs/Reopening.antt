-- A project whose two files are opened again after a crash.
use Rattle.std.specs.Prelude.{◌≡◌, ◌+◌, ◌<◌, ◌≤◌, ℕ, List, length, take, IfSome, None, Option, Some}
use Rattle.sqlite_disk.specs.declared.Disk.{Ghosts}
use Rattle.sqlite_store.specs.declared.store.FileStore.{FileStore}
use Rattle.sqlite.specs.Files.{file_state, over_files}
use Rattle.sqlite.specs.Held.{Held}
use Rattle.sqlite.specs.State.{State, HasCleanDisk}
use Rattle.sqlite_trees.specs.declared.store.Store as Store
use Rattle.wu_core.specs.World.{World}
use Rattle.wu_core.specs.declared.fault.Fault.TheVariants.{Broken, Ended}
use Rattle.wu_stops.specs.Stopping.{FindsAgain}
use Rattle.wu_drive.specs.Driving.{AnswerAll, EndsBy, EndsEarly, LengthensLife, world_after}
use Rattle.wu_machine.specs.Sound.{IsProject}
use Rattle.wu_passes.specs.Adopting.{Adopts}
use Rattle.wu_passes.specs.Projects.{connection_of, IsOver, IsSessionOpen, IsSessionEnded, KnowsTables, state_of}
use Rattle.wu_passes.specs.Standing.{GoesOn, IsFailure}
use Rattle.wu_drive.specs.Running.{RunsList}
use Rattle.wu_drive.specs.Writing.{WritesAnswers}
use Rattle.wu_machine.specs.declared.command.Answer.{Answer}
use Rattle.wu_machine.specs.declared.command.Command.{Command}
use Rattle.wu_passes.specs.declared.project.Project.{Project}
use Rattle.wu_drive.specs.declared.runs.Run.{Run}

-- On a clean disk, this holds of each world over which the old session goes on.
abbrev pub OfEachWorld : {S : Type 0} {g : Store.Ghosts S} → Project S g → State → (World → Type 0) → Type 0
OfEachWorld old new holds = HasCleanDisk new → (world : World) → IsOver old world → holds world

-- The session goes on, over the version of its tables.
abbrev pub IsBegun : {S : Type 0} {g : Store.Ghosts S} → Project S g → Type 0
IsBegun project = IsSessionOpen project × KnowsTables project

-- What a run reports: the texts of its answers, which are the machine's replies to the commands that it acknowledged.
abbrev pub TellsReplies : {S : Type 0} {g : Store.Ghosts S} → Option (List ℕ) → Option (List ℕ) → Project S g → List Command → Run → State → Type 0
TellsReplies before after old commands run new =
    (answers : List Answer) × WritesAnswers before after answers run × OfEachWorld old new (λ world. AnswerAll world (take run.acknowledged commands) answers)

-- A run acknowledged at most the whole list, and exactly that if nothing ended it.
abbrev pub DoesAll : List Command → Run → Type 0
DoesAll commands run = (run.acknowledged ≤ length commands) × (run.end ≡ None → run.acknowledged ≡ length commands)

-- Over an ended session nothing is done or written. The run ended for that reason, unless there was no command.
abbrev pub TellsEnded : {S W : Type 0} {g : Store.Ghosts S} → Project S g → W → W → Run → Type 0
TellsEnded old out_old out_new run =
    IsSessionEnded old → (out_new ≡ out_old) × (run.acknowledged ≡ 0) × IfSome run.end (λ fault. fault ≡ Ended)

-- A list of commands was run, and the session was released.
pub record DrivesAndReleases {S W : Type 0} {g : Store.Ghosts S} (contents : W → Option (List ℕ)) (old : Project S g) (out_old out_new : W) (commands : List Command) (run : Run) (conn : Held S) : Type 0 where
  pub left : Project S g
  pub runs : RunsList contents old left out_old out_new commands run
  pub released : conn ≡ connection_of left

module _ {D : Type 0} {g : Ghosts D} where
  -- If the session goes on, a run that ended early reports why, on a clean disk.
  abbrev pub TellsEnd : Project (FileStore D g) over_files → List Command → Run → State → Type 0
  TellsEnd old commands run new = IsSessionOpen old → OfEachWorld old new (λ world. EndsEarly world commands run)

  -- What a run left of a session: only `Memory` or `Broken` ended it, and `Broken` always did.
  pub record IsLeftByRun (old : Project (FileStore D g) over_files) (commands : List Command) (run : Run) (left : Project (FileStore D g) over_files) : Type 0 where
    pub ends : IsSessionOpen old → IsSessionEnded left → EndsBy run IsFailure
    pub broken : IsSessionOpen old → run.end ≡ Some Broken → IsSessionEnded left
    -- A session that had ended is as it was.
    pub same : IsSessionEnded old → left ≡ old
    -- Each world that a crash may leave is that of a history with this session.
    pub lives : LengthensLife old left commands run

  -- After the crash, what the run left is found again.
  abbrev pub FindsLeft : Project (FileStore D g) over_files → List Command → Run → State → Type 0
  FindsLeft old commands run new =
      (left : Project (FileStore D g) over_files) × IsLeftByRun old commands run left × FindsAgain (state_of left) new

  -- The next session adopts what is found.
  pub record AdoptsLeft (old : Project (FileStore D g) over_files) (commands : List Command) (run : Run) (new : Project (FileStore D g) over_files) : Type 0 where
    pub again : Held (FileStore D g)
    pub found : FindsLeft old commands run (file_state again)
    pub adopted : Adopts (file_state again) (state_of new)

-- So many commands of the list: every acknowledged one, and at most one more, which was cut.
pub record IsKept (commands : List Command) (run : Run) (count : ℕ) : Type 0 where
  pub within : count ≤ length commands
  pub has_acknowledged : run.acknowledged ≤ count
  pub at_most_one_more : count ≤ run.acknowledged + 1
  -- The one more is there only if `Memory` or `Broken` ended the session during it.
  pub cut : run.acknowledged < count → EndsBy run IsFailure

-- The tables represent the machine's world after the first so many commands: in order, none skipped and none in part.
pub record HoldsBeginning (world : World) (commands : List Command) (run : Run) (found : State) : Type 0 where
  pub count : ℕ
  pub kept : IsKept commands run count
  pub goes : GoesOn found (world_after world commands count)
  -- Further commands may run over that world.
  pub project : IsProject (world_after world commands count)

-- From each world over which the old session goes on, the world after a prefix of the list is found.
abbrev pub FindsBeginning : {S : Type 0} {g : Store.Ghosts S} → Project S g → List Command → Run → State → Type 0
FindsBeginning old commands run new = OfEachWorld old new (λ world. ∥ HoldsBeginning world commands run new ∥₁)
