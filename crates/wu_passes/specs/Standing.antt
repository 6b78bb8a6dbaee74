-- A session over its tables: which world they represent, and what a crash may leave.
use Rattle.std.specs.Prelude.{◌≡◌, ◌⊎◌, ◌<◌, ◌≤◌, ℕ, Bool, true, false, IsTrue, Result, Ok, Err, MatchResult}
use Rattle.sqlite_disk.specs.Disk.{MoreFaults}
use Rattle.sqlite_trees.specs.View.{doubt}
use Rattle.sqlite.specs.State.{HasCleanDisk, State}
use Rattle.sqlite.specs.Tree.{Trees}
use Rattle.wu_core.specs.declared.fault.Fault.{Fault}
use Rattle.wu_core.specs.declared.fault.Fault.TheVariants.{Memory, Broken, NewSchema, NotAProject}
use Rattle.wu_core.specs.World.{World}
use Rattle.wu_machine.specs.declared.command.Answer.{Answer}
use Rattle.wu_passes.specs.Committing.{FoundAs}
use Rattle.wu_machine.specs.Machine.{MakesNothing, present_version, reply, step}
use Rattle.wu_machine.specs.Commands.{reply_of_answer}
pub use Rattle.wu_schema.specs.Faults.{IsFailure}
use Rattle.wu_store.specs.Loading.{IsStoreFault}
use Rattle.wu_store.specs.StandsFor.{StandsFor}
use Rattle.wu_machine.specs.Requests.{Reply, Request}

-- While the connection is open, the tables represent this world, and all is committed.
abbrev pub ShowsWorld : State → World → Type 0
ShowsWorld s world = IsTrue s.is_open → StandsFor s.now world × (s.committed ≡ s.now)

-- The tables represent this world, all is committed, and a crash leaves only tables that represent it.
pub record GoesOn (s : State) (world : World) : Type 0 where
  pub stands : ShowsWorld s world
  pub left : (db : Trees) → s.may_leave db → FoundAs db world

-- The session ended during a request: a crash leaves the world before it or the world after it. While the connection is
-- open, all is as before the request, so that the next session goes on from there.
pub record HasEnded (s : State) (world : World) (cut : Request) : Type 0 where
  pub stands : IsTrue s.is_open → GoesOn s world
  pub left : (db : Trees) → s.may_leave db → FoundAs db world ⊎ FoundAs db (step world cut)

-- What holds after a request that was not done, by whether the session ended.
abbrev pub RefinesAfterFault : Bool → State → World → Request → Type 0
RefinesAfterFault false s world asked = GoesOn s world
RefinesAfterFault true s world asked = HasEnded s world asked

-- The request is done: the answer is the machine's reply, and the tables represent the machine's step. Or the machine
-- refuses it, or the store has a fault. Then the tables represent the same world, or the session ended during the
-- request.
abbrev pub Runs : World → Request → Bool → State → Result Answer Fault → Type 0
Runs world request has_ended new result =
    MatchResult result (λ answer. (reply world request ≡ Ok (reply_of_answer answer)) × (has_ended ≡ false) × GoesOn new (step world request))
    (λ fault. ((reply world request ≡ Err fault) ⊎ IsStoreFault fault) × RefinesAfterFault has_ended new world request)

-- The machine answers the request.
abbrev pub IsAnswered : World → Request → Type 0
IsAnswered world request = (answer : Reply) × (reply world request ≡ Ok answer)

-- The machine answers the request and makes something of the world.
abbrev pub MakesSome : World → Request → Type 0
MakesSome world request = IsAnswered world request × ¬ MakesNothing world request

-- Why a command was not done. If the session ended: a read was `Broken`, or what the machine makes could not be
-- written. Otherwise: the machine refuses it, the call was out of memory, or a statement that writes was refused.
abbrev pub FailureCause : Type 0 → Bool → World → Request → Fault → Type 0
FailureCause Broke true world request fault = ((fault ≡ Broken) × Broke) ⊎ (IsFailure fault × MakesSome world request)
FailureCause Broke false world request fault =
    (reply world request ≡ Err fault) ⊎ ((fault ≡ Memory) ⊎ ((fault ≡ NotAProject) × MakesSome world request))

-- Within a transaction, only a refused statement does not end the session.
abbrev pub IsCutBy : Bool → Fault → Type 0
IsCutBy true fault = IsFailure fault
IsCutBy false fault = fault ≡ NotAProject

-- A disk that is not clean stays so.
abbrev pub FaultsOnlyGrow : State → State → Type 0
FaultsOnlyGrow old new = doubt old.is_clean ≤ doubt new.is_clean

-- On a clean disk, only a disk that fails in this call closes an open connection.
abbrev pub KeepsOpen : State → State → Type 0
KeepsOpen old new = HasCleanDisk new → IsTrue old.is_open → IsTrue new.is_open ⊎ MoreFaults old.faults new.faults

-- On a clean disk, nothing opens a closed connection.
abbrev pub KeepsShut : State → State → Type 0
KeepsShut old new = HasCleanDisk new → IsTrue new.is_open → IsTrue old.is_open

-- The fault reports a later version than this program knows.
abbrev pub TellsLater : ℕ → Fault → Type 0
TellsLater version fault = (fault ≡ NewSchema version) × (present_version < version)
