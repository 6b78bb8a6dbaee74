-- Two runs of the program over one file: what a crash leaves of the first begins the second.
use Rattle.std.specs.Prelude.{◌≡◌, ◌≤◌, ◌++◌, ◌∷◌, ℕ, List, [], take, Option}
use Rattle.sqlite_disk.specs.declared.Disk.{Ghosts}
use Rattle.sqlite_disk.specs.declared.Files.{Files}
use Rattle.sqlite_store.specs.FileStore.{view, faults, recovers, is_shielded, files as store_files}
use Rattle.sqlite_store.specs.declared.store.FileStore.{FileStore}
use Rattle.sqlite_trees.specs.View.{IsQuiet}
use Rattle.sqlite_trees.specs.declared.store.Store as Store
use Rattle.sqlite_wal.specs.Files.{outcomes}
use Rattle.sqlite_wal.specs.Reads.{AreClean}
use Rattle.sqlite_wal.specs.Recovery.{Image}
use Rattle.sqlite.specs.Files.{over_files}
use Rattle.sqlite.specs.State.{State, HasCleanDisk}
use Rattle.wu_core.specs.World.{World}
use Rattle.wu_drive.specs.Driving.{AnswerAll, EndsEarly, world_after}
use Rattle.wu_drive.specs.Writing.{WritesAnswers}
use Rattle.wu_drive.specs.declared.runs.Run.{Run}
use Rattle.wu_machine.specs.Machine.{present_version}
use Rattle.wu_machine.specs.Sound.{IsProject}
use Rattle.wu_machine.specs.declared.command.Answer.{Answer}
use Rattle.wu_machine.specs.declared.command.Command.{Command}
use Rattle.wu_passes.specs.Projects.{connection_of, IsOver, IsSessionOpen, state_of}
use Rattle.wu_passes.specs.Standing.{GoesOn}
use Rattle.wu_passes.specs.declared.project.Project.{Project}
use Rattle.wu_stops.specs.Beginning.{HoldsWorld}
use Rattle.wu_stops.specs.Closing.{IsNumbered}
use Rattle.wu_lives.specs.Lives.{HasLived, Transcript}
use Rattle.wu_lives.specs.Reopening.{IsKept, IsLeftByRun}

-- The two files hold the machine's world after the first so many commands: every acknowledged one, and at most one
-- more.
pub record HoldsBeginningIn (world : World) (commands : List Command) (run : Run) (image : Image) : Type 0 where
  pub count : ℕ
  pub kept : IsKept commands run count
  pub held : HoldsWorld image (world_after world commands count)
  -- Further commands may run over that world.
  pub project : IsProject (world_after world commands count)

-- If the files hold the tables of a world, a session goes on from that world, whose version the program knows.
abbrev pub BeginsOver : Image → State → Type 0
BeginsOver image new =
    (world : World) → 1 ≤ world.version → HoldsWorld image world → HasCleanDisk new → GoesOn new world × (world.version ≤ present_version)

-- What a run reported.
abbrev pub told_by : List Command → List Answer → Run → Transcript
told_by commands answers run = record { commands = commands; answers = answers; run = run }

module _ {D : Type 0} {g : Ghosts D} (old : Project (FileStore D g) over_files) (commands : List Command) (run : Run) where
  -- These are the two files that the first run left: its session was released, and then its store.
  pub record AreLeft (files : Files D) : Type 0 where
    pub left : Project (FileStore D g) over_files
    pub is_left : IsLeftByRun old commands run left
    pub store : FileStore D g
    pub quiet : IsQuiet view faults recovers is_shielded (connection_of left).store store
    pub files_are : (files.log, files.db) ≡ store_files store

  -- On a disk that is clean at the end of the first run, this holds of each world over which its session began.
  abbrev pub OfFirst : Files D → (World → Type 0) → Type 0
  OfFirst files holds = AreClean g files.log files.db → (world : World) → IsOver old world → holds world

  -- If its session went on, the first run reports why it ended early.
  abbrev pub WhyEnded : Files D → Type 0
  WhyEnded files = IsSessionOpen old → OfFirst files (λ world. EndsEarly world commands run)

  -- Each image of the files that a crash may leave of the first run holds the world after a prefix of its list.
  abbrev pub LeavesBeginnings : Files D → Type 0
  LeavesBeginnings files = OfFirst files (λ world. (image : Image) → outcomes g files.log files.db image → ∥ HoldsBeginningIn world commands run image ∥₁)

  -- The first run did what the machine does, and a crash leaves the world after a prefix of its list.
  pub record DoesFirst (answers : List Answer) (files : Files D) : Type 0 where
    -- The answers are the machine's replies to the commands that the run acknowledged.
    pub replies : OfFirst files (λ world. AnswerAll world (take run.acknowledged commands) answers)
    pub beginnings : LeavesBeginnings files
    pub why : WhyEnded files

  -- The texts of these answers are written, and the first run left these files.
  pub record LeavesFiles (before after : Option (List ℕ)) (files : Files D) : Type 0 where
    pub answers : List Answer
    pub written : WritesAnswers before after answers run
    pub left : AreLeft files
    pub does : DoesFirst answers files

  -- The same after a close that failed, of the files of the store that it gave back. That the run did what the machine
  -- does is said if the store's trees are numbered as its catalog says.
  pub record LeavesStore (before after : Option (List ℕ)) (store : FileStore D g) : Type 0 where
    pub answers : List Answer
    pub written : WritesAnswers before after answers run
    pub left : (files : Files D) → (files.log, files.db) ≡ store_files store → AreLeft files
    pub does : IsNumbered store → (files : Files D) → (files.log, files.db) ≡ store_files store → DoesFirst answers files

  -- If the second run begins over such an image, it goes on from the world of the history over both runs.
  abbrev pub LivesOn : {T : Type 0} {h : Store.Ghosts T} → List Answer → Files D → Image → Project T h → Type 0
  LivesOn answers files image new =
      AreClean g files.log files.db → outcomes g files.log files.db image → HasCleanDisk (state_of new) → (world : World) (told : List Transcript) → HasLived world told old
      → ∥ HasLived world (told ++ told_by commands answers run ∷ []) new ∥₁

  -- What the first run reported and left, and the history over both runs.
  pub record LivesOver {T : Type 0} {h : Store.Ghosts T} (before after : Option (List ℕ)) (image : Image) (new : Project T h) : Type 0 where
    pub files : Files D
    pub first : LeavesFiles before after files
    pub lives : LivesOn first.answers files image new
