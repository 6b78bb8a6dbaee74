-- A project as its callers know it: what its connection shows, whether its session has ended, and which older version
-- it is over.
use Rattle.std.specs.Prelude.{◌≡◌, ◌⊎◌, ◌≤◌, ℕ, Bool, true, false, if◌then◌else◌, List, IfErr, IfSome, IsErrAnd, IsSome, IsTrue, MatchResult, None, OnOk, Option, Result, Err, ◌≢◌}
use Rattle.sqlite.specs.Effect.{Database}
use Rattle.sqlite.specs.Held.{Held, state}
use Rattle.sqlite.specs.State.{State, HasCleanDisk}
use Rattle.sqlite.specs.Store.{Ghosts}
use Rattle.wu_core.specs.declared.fault.Fault.{Fault}
use Rattle.wu_core.specs.declared.fault.Fault.TheVariants.{BadLimit, Broken, Ended, OldSchema, NotAProject}
use Rattle.wu_core.specs.World.{World}
use Rattle.wu_schema.specs.Calls.{HasBroken}
use Rattle.wu_schema.specs.Faults.{IsFailure, IsStoreFault}
use Rattle.wu_store.specs.declared.changes.Change.{Change}
use Rattle.wu_machine.specs.declared.command.Answer.{Answer}
use Rattle.wu_machine.specs.declared.command.Command.{Command}
use Rattle.wu_passes.specs.declared.project.Project.{Project}
use Rattle.wu_machine.specs.Machine.{has_right_limits, is_upgrade, MakesNothing, step}
use Rattle.wu_plans.specs.declared.plan.Plan.{Plan}
use Rattle.wu_plans.specs.Planning.{NeverEnded, Plans, PlansFor, PlansProject}
use Rattle.wu_machine.specs.Commands.{request_of}
use Rattle.wu_machine.specs.Sound.{IsProject}
use Rattle.wu_store.specs.Loading.{Asks, ServesUnlessFailed}
use Rattle.wu_store.specs.StandsFor.{StandsFor}
use Rattle.wu_views.specs.Summaries.{CountsSummary, SumsSummary}
use Rattle.wu_views.specs.declared.lines.Summary.{Summary}
use Rattle.wu_machine.specs.Requests.{Request}
use Rattle.wu_passes.specs.Adopting.{Adopts, KeepsAll, older_than_present, StartsOver, TellsNew}
use Rattle.wu_passes.specs.Leaving.{RunsFrom}
use Rattle.wu_passes.specs.Standing.{GoesOn, HasEnded, FaultsOnlyGrow, KeepsOpen, KeepsShut, Runs, ShowsWorld, FailureCause}

-- The connection that a release gives back.
abbrev pub connection_of : {S : Type 0} {g : Ghosts S} → Project S g → Held S
connection_of project = project.conn

-- What the connection of a project shows, and what a crash may leave.
abbrev pub state_of : {S : Type 0} {g : Ghosts S} → Project S g → State
state_of {S} {g} project = state g (connection_of project)

abbrev pub has_ended : {S : Type 0} {g : Ghosts S} → Project S g → Bool
has_ended project = project.has_ended

-- The session has ended, or it goes on.
abbrev pub IsSessionEnded : {S : Type 0} {g : Ghosts S} → Project S g → Type 0
IsSessionEnded project = has_ended project ≡ true

abbrev pub IsSessionOpen : {S : Type 0} {g : Ghosts S} → Project S g → Type 0
IsSessionOpen project = has_ended project ≡ false

-- The older version that the session is over; `None` at the present one.
abbrev pub older_version : {S : Type 0} {g : Ghosts S} → Project S g → Option ℕ
older_version project = project.older

-- Whether the adoption of the session made the project.
abbrev pub is_new_project : {S : Type 0} {g : Ghosts S} → Project S g → Bool
is_new_project project = project.is_new

-- The older version that a request is refused for; an upgrade is refused for none.
abbrev pub refused_for : Request → Option ℕ → Option ℕ
refused_for request older = if is_upgrade request then None else older

-- The session is over the present version.
abbrev pub IsPresentSession : {S : Type 0} {g : Ghosts S} → Project S g → Type 0
IsPresentSession project = older_version project ≡ None

-- No limit is set on the steps of a statement.
abbrev pub IsUnlimited : {S : Type 0} {g : Ghosts S} → Project S g → Type 0
IsUnlimited project = (state_of project).step_limit ≡ None

-- On a clean disk, the connection is open.
abbrev pub IsOpen : {S : Type 0} {g : Ghosts S} → Project S g → Type 0
IsOpen project = HasCleanDisk (state_of project) → IsTrue (state_of project).is_open

-- ---- a new session over the connection of an ended one, if that is open

-- The new session goes on from the world before the cut request.
abbrev pub GoesOnAgain : {S : Type 0} {g : Ghosts S} → Project S g → Project S g → Type 0
GoesOnAgain old new =
    HasCleanDisk (state_of new) → IsTrue (state_of old).is_open → (world : World) (cut : Request) → IsProject world → HasEnded (state_of old) world cut
    → GoesOn (state_of new) world

-- Only `Memory` or `Broken` refuses the new session, and the world stays.
abbrev pub FailsAgain : {S : Type 0} {g : Ghosts S} → Project S g → Held S × Fault → Type 0
FailsAgain {S} {g} old refusal =
    HasCleanDisk (state g refusal.0) → IsTrue (state_of old).is_open → (world : World) (cut : Request) → IsProject world → HasEnded (state_of old) world cut
    → GoesOn (state g refusal.0) world × IsFailure refusal.1

-- ---- a command

-- The limit on steps stays as it was; an adoption removed it.
abbrev pub KeepsLimit : {S : Type 0} {g : Ghosts S} → Project S g → Project S g → Type 0
KeepsLimit old new = (state_of new).step_limit ≡ (state_of old).step_limit

-- The session stays over its version.
abbrev pub KeepsVersion : {S : Type 0} {g : Ghosts S} → Project S g → Project S g → Type 0
KeepsVersion old new = older_version new ≡ older_version old

-- After an answer the session is over the present version; after a fault it stays over its version.
abbrev pub ReachesPresent : {S T : Type 0} {g : Ghosts S} → Project S g → Project S g → Result T Fault → Type 0
ReachesPresent old new result = MatchResult result (λ _. IsPresentSession new) (λ _. KeepsVersion old new)

-- An open connection stays open unless the disk failed in this call, and a closed one stays closed.
abbrev pub StaysOpen : {S : Type 0} {g : Ghosts S} → Project S g → Project S g → Type 0
StaysOpen old new = KeepsOpen (state_of old) (state_of new)

abbrev pub StaysShut : {S : Type 0} {g : Ghosts S} → Project S g → Project S g → Type 0
StaysShut old new = KeepsShut (state_of old) (state_of new)

-- What a call keeps of a session, whatever it answers.
pub record KeepsSession {S T : Type 0} {g : Ghosts S} (old new : Project S g) (result : Result T Fault) : Type 0 where
  -- The session ends with `Broken`, and otherwise only with `Memory`.
  pub ends : IsSessionOpen old → IsSessionEnded new → IsErrAnd result IsFailure
  pub broken : IsSessionOpen old → result ≡ Err Broken → IsSessionEnded new
  -- A session that goes on is never reported as ended.
  pub never : IsSessionOpen old → NeverEnded result
  -- A disk that is not clean stays so, and no fault of the disk is forgotten.
  pub clean : FaultsOnlyGrow (state_of old) (state_of new)
  pub counts : (state_of old).faults ≤ (state_of new).faults
  pub limit : KeepsLimit old new
  pub version : ReachesPresent old new result
  -- Only a disk that fails in this call closes an open connection, out of memory never does, and nothing opens a closed
  -- one.
  pub opens : StaysOpen old new
  pub shut : StaysShut old new

-- The disk failed in this call, or the connection was not open.
abbrev pub Broke : {S : Type 0} {g : Ghosts S} → Project S g → Project S g → Type 0
Broke {S} {g} old new = HasBroken g (connection_of old) (connection_of new)

-- On a clean disk, `Broken` means that the disk failed in this call, or that the connection was not open.
abbrev pub BreaksOn : {S T : Type 0} {g : Ghosts S} → Project S g → Project S g → Result T Fault → Type 0
BreaksOn old new result = HasCleanDisk (state_of new) → result ≡ Err Broken → Broke old new

-- An ended session answers `Ended` to the call, and nothing is touched.
abbrev pub AnswersEnded : {S T : Type 0} {g : Ghosts S} → Project S g → Project S g → Result T Fault → Type 0
AnswersEnded old new result = (result ≡ Err Ended) × (new ≡ old)

-- A session over an older version answers `OldSchema` with that version to the call, and nothing is touched.
abbrev pub AnswersOlder : {S T : Type 0} {g : Ghosts S} → Project S g → Project S g → Result T Fault → Type 0
AnswersOlder old new result = IfSome (older_version old) (λ version. (result ≡ Err (OldSchema version)) × (new ≡ old))

-- The session is over the version of this world.
abbrev pub IsOfItsVersion : {S : Type 0} {g : Ghosts S} → Project S g → World → Type 0
IsOfItsVersion project world = older_version project ≡ older_than_present world.version

-- The session is over this world: a project of its version, which its tables represent.
pub record ShowsProject {S : Type 0} {g : Ghosts S} (project : Project S g) (world : World) : Type 0 where
  pub is_project : IsProject world
  pub version : IsOfItsVersion project world
  pub shows : ShowsWorld (state_of project) world

-- The session goes on over this world: a project of its version, which its tables represent, and a crash leaves nothing
-- else.
pub record IsOver {S : Type 0} {g : Ghosts S} (project : Project S g) (world : World) : Type 0 where
  pub is_project : IsProject world
  pub version : IsOfItsVersion project world
  pub goes : GoesOn (state_of project) world

-- On a clean disk, the session is over the version of each world that its tables represent.
abbrev pub KnowsTables : {S : Type 0} {g : Ghosts S} → Project S g → Type 0
KnowsTables project = HasCleanDisk (state_of project) → (world : World) → ShowsWorld (state_of project) world → IsOfItsVersion project world

-- The session begins over the project that is found in a database, or made there.
pub record BeginsSession {S : Type 0} (g : Ghosts S) (conn : Held S) (project : Project S g) : Type 0 where
  -- The connection was in no transaction.
  pub idle : conn.in_transaction ≡ false
  -- The session has not ended.
  pub going : IsSessionOpen project
  -- A project that was there is found, of a known version, and is not touched. If there was none, its tables are made
  -- beside all else that is there, and represent the empty world. The session goes on over the world of which alone a
  -- crash could leave the tables. The connection was open and still is, without a limit on steps. A crash leaves what it
  -- could have left before, or the fresh project.
  pub adopts : Adopts (state g conn) (state_of project)
  -- If the project that is found has an older version, the session is over that version; otherwise it is over no older one.
  pub version : StartsOver (state g conn) (state_of project) (older_version project)
  -- Whatever world the tables represent, the session knows the version of it.
  pub knows : KnowsTables project
  -- The project is new if there was none before.
  pub told : TellsNew (state g conn) (state_of project) (is_new_project project)

-- On a clean disk, the command runs over each world over which the session goes on.
abbrev pub RunsOn : {S : Type 0} {g : Ghosts S} → Project S g → Project S g → Command → Result Answer Fault → Type 0
RunsOn old new command result =
    HasCleanDisk (state_of new) → (world : World) → IsOver old world → Runs world (request_of command) (has_ended new) (state_of new) result

-- On a clean disk, the command runs over each world that the tables represent, whatever a crash could leave before it.
abbrev pub RunsFromAny : {S : Type 0} {g : Ghosts S} → Project S g → Project S g → Command → Result Answer Fault → Type 0
RunsFromAny old new command result =
    HasCleanDisk (state_of new) → (world : World) → ShowsProject old world
    → RunsFrom (state_of old) world (request_of command) (has_ended new) (state_of new) result

-- After the command the session is over the machine's step, or over the same world if the command was not done.
abbrev pub StaysOver : {S : Type 0} {g : Ghosts S} → Project S g → Project S g → Command → Result Answer Fault → Type 0
StaysOver old new command result =
    HasCleanDisk (state_of new) → (world : World) → ShowsProject old world
    → MatchResult result (λ _. ShowsProject new (step world (request_of command))) (λ _. ShowsProject new world)

-- What a command makes of the world that the tables represent.
pub record RunsOver {S : Type 0} {g : Ghosts S} (old new : Project S g) (command : Command) (result : Result Answer Fault) : Type 0 where
  -- This holds if a crash could leave only that world before.
  pub goes : RunsOn old new command result
  -- This holds whatever a crash could leave before.
  pub from : RunsFromAny old new command result
  pub stays : StaysOver old new command result

-- What the questions of a call do to the connection of a project.
abbrev pub AsksOn : {S T : Type 0} {g : Ghosts S} → Project S g → Project S g → Result T Fault → Type 0
AsksOn {S} {T} {g} old new result = Asks g (connection_of old) (connection_of new) result

-- What a question keeps of a session: `Broken` ends it, and nothing else does.
pub record KeepsAsking {S T : Type 0} {g : Ghosts S} (old new : Project S g) (result : Result T Fault) : Type 0 where
  pub ends : IsSessionOpen old → IsSessionEnded new → result ≡ Err Broken
  pub broken : result ≡ Err Broken → IsSessionEnded new
  -- The session stays over its version.
  pub version : KeepsVersion old new

-- The plan of the command is made, or the machine refuses it; it only reads, and over an adopted project no read is
-- refused.
abbrev pub PlansOn : {S : Type 0} {g : Ghosts S} → Project S g → Project S g → Command → Result Plan Fault → Type 0
PlansOn {S} {g} old new command result = PlansProject g (connection_of old) (connection_of new) result (PlansFor (request_of command)) IsProject

-- The changes of a plan are made over the session's world, and its answer is given.
abbrev pub CarriesOut : {S : Type 0} {g : Ghosts S} → Project S g → Project S g → Answer → List Change → Result Answer Fault → Type 0
CarriesOut old new answer changes result =
    HasCleanDisk (state_of new) → (world : World) (request : Request) → StandsFor (state_of old).now world → GoesOn (state_of old) world
    → Plans world request answer changes → Runs world request (has_ended new) (state_of new) result

-- The changes of a plan are made, and its answer is given, whatever a crash could leave before.
abbrev pub CarriesOutFrom : {S : Type 0} {g : Ghosts S} → Project S g → Project S g → Answer → List Change → Result Answer Fault → Type 0
CarriesOutFrom old new answer changes result =
    HasCleanDisk (state_of new) → (world : World) (request : Request) → StandsFor (state_of old).now world → ShowsWorld (state_of old) world
    → Plans world request answer changes → RunsFrom (state_of old) world request (has_ended new) (state_of new) result

-- After an answer, and after each fault except `Memory` and `Broken`, the connection is open.
abbrev pub ServesOn : {S T : Type 0} {g : Ghosts S} → Project S g → Result T Fault → Type 0
ServesOn {S} {T} {g} new result = ServesUnlessFailed g (connection_of new) result

-- If the session is over the present version or the connection was open, it is open afterwards, except after `Memory`
-- and `Broken`.
abbrev pub ServesShown : {S T : Type 0} {g : Ghosts S} → Project S g → Project S g → Result T Fault → Type 0
ServesShown old new result = IsPresentSession old ⊎ IsTrue (state_of old).is_open → ServesOn new result

-- The command is planned: the session is over the present version or the command is an upgrade, and its limits are
-- right.
pub record IsPlanned {S : Type 0} {g : Ghosts S} (old : Project S g) (command : Command) : Type 0 where
  pub present : IsSome (older_version old) → is_upgrade (request_of command) ≡ true
  pub right : has_right_limits (request_of command) ≡ true

-- After a planned command the connection is open, except after `Memory` and `Broken`.
abbrev pub ServesRight : {S T : Type 0} {g : Ghosts S} → Project S g → Project S g → Command → Result T Fault → Type 0
ServesRight old new command result = IsPlanned old command → ServesOn new result

-- A command that is not planned is refused before any question, and nothing is touched.
pub record RefusesEarly {S T : Type 0} {g : Ghosts S} (old new : Project S g) (command : Command) (result : Result T Fault) : Type 0 where
  -- Over an older version, each command except an upgrade is refused, whatever its limits.
  pub older : is_upgrade (request_of command) ≡ false → AnswersOlder old new result
  -- Over the present version, a pass with wrong limits is refused.
  pub limits : IsPresentSession old → has_right_limits (request_of command) ≡ false → (result ≡ Err BadLimit) × (new ≡ old)

-- After each fault except `Memory` and `Broken` all is as it was: every table, and what a crash may leave.
abbrev pub LeavesUntouched : {S T : Type 0} {g : Ghosts S} → Project S g → Project S g → Result T Fault → Type 0
LeavesUntouched old new result = HasCleanDisk (state_of new) → IfErr result (λ fault. IsFailure fault ⊎ KeepsAll (state_of old) (state_of new))

-- After an answer all is as it was if the machine makes nothing of the world, as of a repeated import or a pass that
-- finds nothing.
abbrev pub LeavesIdle : {S T : Type 0} {g : Ghosts S} → Project S g → Project S g → Command → Result T Fault → Type 0
LeavesIdle old new command result =
    HasCleanDisk (state_of new) → (world : World) → ShowsProject old world → MakesNothing world (request_of command)
    → OnOk result (KeepsAll (state_of old) (state_of new))

-- Over an adopted project, a command that was not done reports why.
abbrev pub TellsWhy : {S T : Type 0} {g : Ghosts S} → Project S g → Project S g → Command → Result T Fault → Type 0
TellsWhy old new command result =
    HasCleanDisk (state_of new) → IsUnlimited old → (world : World) → ShowsProject old world
    → IfErr result (FailureCause (Broke old new) (has_ended new) world (request_of command))

-- ---- a question

-- After the end of a session, and over an older version, a call is refused before any question.
pub record AnswersFirst {S T : Type 0} {g : Ghosts S} (old new : Project S g) (result : Result T Fault) : Type 0 where
  pub ended : IsSessionEnded old → AnswersEnded old new result
  pub older : IsSessionOpen old → AnswersOlder old new result

-- A question of a project, within its session. After the end of the session the answer is `Ended`, and over an older
-- version `OldSchema`; nothing is touched then (`early`). Only `Broken` ends the session (`session`), and it only reads
-- (`asks`). Over the present version the connection is open afterwards, except after `Memory` and `Broken` (`opens`), and
-- a fault is one of the store (`fault`). It finds this of each world over which the tables stood (`found`). If that world
-- can be read, and steps have no limit, `NotAProject` is not returned (`unrefused`).
pub record Looks {S T : Type 0} {g : Ghosts S} (old new : Project S g) (result : Result T Fault) (Over : Database → World → Type 0) (Finds : Result T Fault → World → Type 0) (Can : World → Type 0) : Type 0 where
  pub early : AnswersFirst old new result
  pub session : KeepsAsking old new result
  pub asks : AsksOn old new result
  pub opens : IsSessionOpen old → IsPresentSession old → ServesOn new result
  pub fault : IsSessionOpen old → IsPresentSession old → IfErr result IsStoreFault
  pub found : HasCleanDisk (state_of new) → (world : World) → Over (state_of old).now world → Finds result world
  pub unrefused :
      IsSessionOpen old → HasCleanDisk (state_of new) → (world : World) → Over (state_of old).now world → Can world → IsUnlimited old
      → IfErr result (λ fault. fault ≢ NotAProject)

-- The numbers of the summary count each row of instances and of grants, whatever the tables represent.
pub record CountsRows {S : Type 0} {g : Ghosts S} (old new : Project S g) (result : Result Summary Fault) : Type 0 where
  pub states : CountsSummary g (connection_of old) (connection_of new) result
  pub credit : SumsSummary g (connection_of old) (connection_of new) result
