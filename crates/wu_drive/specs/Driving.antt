-- A list of commands over a session: what was answered, and which world the tables then represent.
use Rattle.std.specs.Prelude.{◌≡◌, ◌⊎◌, ◌≤◌, ℕ, Bool, true, false, List, [], ◌∷◌, ◌++◌, if◌then◌else◌, length, map, option_map, take, slice_get, IfSome, IsTrue, Some, None, Ok, Err, ⊤}
use Rattle.sqlite.specs.State.{State, HasCleanDisk}
use Rattle.sqlite_trees.specs.declared.store.Store.{Ghosts}
use Rattle.sqlite.specs.Tree.{Trees}
use Rattle.wu_schema.specs.Faults.{IsFailure}
use Rattle.wu_passes.specs.Adopting.{KeepsAll}
use Rattle.wu_passes.specs.Committing.{FoundAs}
use Rattle.wu_machine.specs.Sessions.{Lived, Session, world_of_life}
use Rattle.wu_core.specs.World.{World}
use Rattle.wu_core.specs.declared.fault.Fault.{Fault}
use Rattle.wu_core.specs.declared.fault.Fault.TheVariants.{Ended, Output}
use Rattle.wu_machine.specs.Machine.{fold_steps, MakesNothing, reply, step}
use Rattle.wu_machine.specs.Commands.{request_of, reply_of_answer}
use Rattle.wu_machine.specs.Sound.{IsProject}
use Rattle.wu_store.specs.Loading.{IsStoreFault}
use Rattle.wu_passes.specs.Standing.{GoesOn, HasEnded, FailureCause}
use Rattle.wu_machine.specs.declared.command.Answer.{Answer}
use Rattle.wu_machine.specs.declared.command.Command.{Command}
use Rattle.wu_passes.specs.declared.project.Project.{Project}
use Rattle.wu_passes.specs.Projects.{Broke, IsOver, IsSessionOpen, has_ended, IsSessionEnded, IsUnlimited, ShowsProject, state_of}
use Rattle.wu_drive.specs.declared.runs.Run.{Run}

-- The answers are the machine's replies to the commands, one after another.
abbrev pub AnswerAll : World → List Command → List Answer → Type 0
AnswerAll world [] [] = ⊤
AnswerAll world [] (answer ∷ answers) = ⊥
AnswerAll world (command ∷ commands) [] = ⊥
AnswerAll world (command ∷ commands) (answer ∷ answers) =
    (reply world (request_of command) ≡ Ok (reply_of_answer answer)) × AnswerAll (step world (request_of command)) commands answers

-- The machine's world after the first so many commands.
abbrev pub world_after : World → List Command → ℕ → World
world_after world commands count = fold_steps world (map request_of (take count commands))

-- The run ended because the machine refused the next command, or with a fault of the store.
abbrev pub FailsNext : World → List Command → ℕ → Fault → Type 0
FailsNext world commands count fault =
    (next : Command) × (slice_get commands count ≡ Some next) × ((reply (world_after world commands count) (request_of next) ≡ Err fault) ⊎ IsStoreFault fault)

-- A run that ended early: the machine refused the next command, the store failed it, or the text of the last done
-- command could not be written.
abbrev pub EndsEarly : World → List Command → Run → Type 0
EndsEarly world commands run =
    (fault : Fault) → run.end ≡ Some fault
    → FailsNext world commands run.acknowledged fault ⊎ ((fault ≡ Output) × (1 ≤ run.acknowledged))

-- A run acknowledges a prefix of the list, each command with the machine's reply. The tables then represent the world
-- after that prefix. If the session ended, a crash may also leave the world after the next command, which was cut.
pub record Drives (world : World) (commands : List Command) (answers : List Answer) (run : Run) (has_ended : Bool) (new : State) : Type 0 where
  pub within : run.acknowledged ≤ length commands
  pub answered : AnswerAll world (take run.acknowledged commands) answers
  pub end : EndsEarly world commands run
  pub goes : has_ended ≡ false → GoesOn new (world_after world commands run.acknowledged)
  pub ended : has_ended ≡ true → (cut : Command) × (slice_get commands run.acknowledged ≡ Some cut) × HasEnded new (world_after world commands run.acknowledged) (request_of cut)
  -- Further commands may run over that world, and over the one after the cut command.
  pub project : IsProject (world_after world commands run.acknowledged)
  pub cut_project : has_ended ≡ true → (cut : Command) → slice_get commands run.acknowledged ≡ Some cut → IsProject (step (world_after world commands run.acknowledged) (request_of cut))

-- The session of a run: the commands that it acknowledged, and the one that was cut if the session ended.
abbrev pub session_of : List Command → Run → Bool → Session
session_of commands run has_ended = record {
  acknowledged = map request_of (take run.acknowledged commands);
  cut = if has_ended then option_map request_of (slice_get commands run.acknowledged) else None;
}

-- Each world that a crash may leave is that of the history with this session added, its cut command in or out.
abbrev pub Lengthens : World → List Lived → Session → State → Type 0
Lengthens start life session new =
    (db : Trees) → new.may_leave db → (is_cut_in : Bool) × FoundAs db (world_of_life start (life ++ record { session = session; is_cut_in = is_cut_in } ∷ []))

-- On a clean disk, a run drives any world over which its session goes on.
abbrev pub DrivesProject : {S : Type 0} {store : Ghosts S} → Project S store → Project S store → List Command → List Answer → Run → Type 0
DrivesProject old new commands answers run =
    IsSessionOpen old → HasCleanDisk (state_of new) → (world : World) → IsOver old world
    → Drives world commands answers run (has_ended new) (state_of new)

-- Whatever a crash could leave before the run, each acknowledged command has the machine's reply. The tables then
-- represent the world after that prefix, even if the session ended during the next command.
pub record DrivesFrom {S : Type 0} {store : Ghosts S} (world : World) (commands : List Command) (answers : List Answer) (run : Run) (new : Project S store) : Type 0 where
  pub answered : AnswerAll world (take run.acknowledged commands) answers
  pub end : EndsEarly world commands run
  pub shows : ShowsProject new (world_after world commands run.acknowledged)

-- On a clean disk, a run acknowledges such a prefix from any world that the tables represent.
abbrev pub DrivesFromAny : {S : Type 0} {store : Ghosts S} → Project S store → Project S store → List Command → List Answer → Run → Type 0
DrivesFromAny old new commands answers run =
    IsSessionOpen old → HasCleanDisk (state_of new) → (world : World) → ShowsProject old world → DrivesFrom world commands answers run new

-- The next command was not done, for this reason.
abbrev pub NotDone : Type 0 → World → List Command → Run → Bool → Fault → Type 0
NotDone Broke world commands run has_ended fault =
    (next : Command) × (slice_get commands run.acknowledged ≡ Some next)
    × FailureCause Broke has_ended (world_after world commands run.acknowledged) (request_of next) fault

-- The text of the last done command could not be written, and the session goes on.
abbrev pub NotWritten : Run → Bool → Fault → Type 0
NotWritten run has_ended fault = (fault ≡ Output) × (1 ≤ run.acknowledged) × (has_ended ≡ false)

-- Over an adopted project, a run that ended early reports why.
abbrev pub DrivesWhy : {S : Type 0} {store : Ghosts S} → Project S store → Project S store → List Command → Run → Type 0
DrivesWhy old new commands run =
    IsSessionOpen old → HasCleanDisk (state_of new) → IsUnlimited old → (world : World) → ShowsProject old world
    → (fault : Fault) → run.end ≡ Some fault → NotDone (Broke old new) world commands run (has_ended new) fault ⊎ NotWritten run (has_ended new) fault

-- On a clean disk, a run lengthens any history that led to the world over which its session goes on.
abbrev pub LengthensLife : {S : Type 0} {store : Ghosts S} → Project S store → Project S store → List Command → Run → Type 0
LengthensLife old new commands run =
    IsSessionOpen old → HasCleanDisk (state_of new) → (start : World) (life : List Lived) → IsOver old (world_of_life start life)
    → Lengthens start life (session_of commands run (has_ended new)) (state_of new)

-- Over an ended session nothing is done or written. The run ended for that reason, unless there was no command.
abbrev pub DrivesNothing : {S W : Type 0} {store : Ghosts S} → Project S store → Project S store → W → W → Run → Type 0
DrivesNothing old new out_old out_new run =
    IsSessionEnded old → (new ≡ old) × (out_new ≡ out_old) × (run.acknowledged ≡ 0) × IfSome run.end (λ fault. fault ≡ Ended)

-- If the first command was not done, and not for `Memory` or `Broken`, all is as it was: every table, and what a crash
-- may leave.
abbrev pub LeavesAll : {S : Type 0} {store : Ghosts S} → Project S store → Project S store → Run → Type 0
LeavesAll old new run =
    HasCleanDisk (state_of new) → run.acknowledged ≡ 0
    → IfSome run.end (λ fault. IsFailure fault ⊎ KeepsAll (state_of old) (state_of new))

-- The run ended early, with a fault of this kind.
abbrev pub EndsBy : Run → (Fault → Type 0) → Type 0
EndsBy run Is = (fault : Fault) × (run.end ≡ Some fault) × Is fault

-- The machine makes nothing of the world by any of these commands, one after another.
abbrev pub MakeNothing : World → List Command → Type 0
MakeNothing world [] = ⊤
MakeNothing world (command ∷ commands) =
    MakesNothing world (request_of command) × MakeNothing (step world (request_of command)) commands

-- If the machine makes nothing by all done commands, all is as it was, unless the run ended with `Memory` or `Broken`.
abbrev pub LeavesAllIdle : {S : Type 0} {store : Ghosts S} → Project S store → Project S store → List Command → Run → Type 0
LeavesAllIdle old new commands run =
    IsSessionOpen old → HasCleanDisk (state_of new) → (world : World) → ShowsProject old world
    → MakeNothing world (take run.acknowledged commands) → EndsBy run IsFailure ⊎ KeepsAll (state_of old) (state_of new)

-- An open connection of a session that goes on stays open, unless the run ended with `Memory` or `Broken`.
abbrev pub ServesUnlessEnded : {S : Type 0} {store : Ghosts S} → Project S store → Project S store → Run → Type 0
ServesUnlessEnded old new run =
    IsSessionOpen old → IsTrue (state_of old).is_open → HasCleanDisk (state_of new)
    → EndsBy run IsFailure ⊎ IsTrue (state_of new).is_open
