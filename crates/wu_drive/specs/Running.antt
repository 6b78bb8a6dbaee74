-- All that is known of a run of commands over a session.
use Rattle.std.specs.Prelude.{◌≡◌, ◌≤◌, ℕ, List, length, Option, Some, None}
use Rattle.sqlite_trees.specs.declared.store.Store.{Ghosts}
use Rattle.wu_core.specs.declared.fault.Fault.TheVariants.{Broken}
use Rattle.wu_machine.specs.declared.command.Answer.{Answer}
use Rattle.wu_machine.specs.declared.command.Command.{Command}
use Rattle.wu_passes.specs.declared.project.Project.{Project}
use Rattle.wu_passes.specs.Projects.{IsSessionOpen, IsSessionEnded, KeepsLimit, StaysOpen, StaysShut, state_of}
use Rattle.wu_passes.specs.Standing.{FaultsOnlyGrow, IsFailure}
use Rattle.wu_drive.specs.declared.runs.Run.{Run}
use Rattle.wu_drive.specs.Driving.{DrivesFromAny, DrivesNothing, DrivesProject, DrivesWhy, EndsBy, LeavesAll, LeavesAllIdle, LengthensLife, ServesUnlessEnded}
use Rattle.wu_drive.specs.Writing.{WritesAnswers}

-- The commands are run in order, up to the first fault.
pub record RunsList {S W : Type 0} {store : Ghosts S} (contents : W → Option (List ℕ)) (old new : Project S store) (out_old out_new : W) (commands : List Command) (run : Run) : Type 0 where
  -- What was answered and written, and which world the tables then represent.
  pub answers : (answers : List Answer) × WritesAnswers (contents out_old) (contents out_new) answers run
      × DrivesProject old new commands answers run × DrivesFromAny old new commands answers run
  pub why : DrivesWhy old new commands run
  pub opens : ServesUnlessEnded old new run
  -- Only a disk that fails in this call closes an open connection, and nothing opens a closed one.
  pub stays : StaysOpen old new
  pub shut : StaysShut old new
  pub lives : LengthensLife old new commands run
  pub ended : DrivesNothing old new out_old out_new run
  -- What did not change.
  pub untouched : LeavesAll old new run
  pub idle : LeavesAllIdle old new commands run
  -- A session ends with `Broken`, and otherwise only with `Memory`.
  pub ends : IsSessionOpen old → IsSessionEnded new → EndsBy run IsFailure
  pub broken : IsSessionOpen old → run.end ≡ Some Broken → IsSessionEnded new
  -- A disk that is not clean stays so, and no fault of the disk is forgotten.
  pub clean : FaultsOnlyGrow (state_of old) (state_of new)
  pub counts : (state_of old).faults ≤ (state_of new).faults
  pub limit : KeepsLimit old new
  -- No more commands are acknowledged than there are, and all are if nothing ended the run.
  pub count : run.acknowledged ≤ length commands
  pub all : run.end ≡ None → run.acknowledged ≡ length commands
