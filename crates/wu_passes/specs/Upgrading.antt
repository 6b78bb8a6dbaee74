-- The upgrade of a project on a connection, without a session.
use Rattle.std.specs.Prelude.{◌≡◌, ◌≢◌, ◌⊎◌, Bool, false, IfErr, IsTrue, List, None, Result, Err, MatchResult, OnOk}
use Rattle.sqlite.specs.Held.{Held, state}
use Rattle.sqlite.specs.State.{State, HasCleanDisk}
use Rattle.sqlite.specs.Store.{Ghosts}
use Rattle.wu_core.specs.declared.fault.Fault.{Fault}
use Rattle.wu_core.specs.declared.fault.Fault.TheVariants.{NotAProject}
use Rattle.wu_core.specs.World.{World}
use Rattle.wu_schema.specs.Faults.{IsFailure}
use Rattle.wu_machine.specs.declared.command.Answer.{Answer}
use Rattle.wu_machine.specs.Machine.{IsUpToDate, reply}
use Rattle.wu_machine.specs.Requests.{AskUpgrade}
use Rattle.wu_machine.specs.Sound.{IsProject}
use Rattle.wu_plans.specs.Planning.{Plans}
use Rattle.wu_store.specs.Loading.{IsStoreFault}
use Rattle.wu_store.specs.StandsFor.{StandsFor}
use Rattle.wu_store.specs.declared.changes.Change.{Change}
use Rattle.wu_passes.specs.Adopting.{KeepsAll}
use Rattle.wu_passes.specs.Leaving.{LeavesAtMost, LeavesStepAlone}
use Rattle.wu_passes.specs.Standing.{ShowsWorld}

-- If it is done, a crash leaves only the same lists at the present version, or all is as it was. If it is not done, the
-- tables represent the same world while the connection is open. A crash then leaves what it could leave before or, if
-- the transaction had begun, the upgraded tables; the tables of other programs stay with these.
abbrev pub UpgradesFrom : {T : Type 0} → State → World → State → Result T (Fault × Bool) → Type 0
UpgradesFrom old world new result =
    MatchResult result (λ _. LeavesStepAlone old new world AskUpgrade)
    (λ refusal. ((reply world AskUpgrade ≡ Err refusal.0) ⊎ IsStoreFault refusal.0)
    × ShowsWorld new world × LeavesAtMost refusal.1 old new world AskUpgrade)

-- On a clean disk, this holds of each project that the tables represent.
abbrev pub UpgradesEach : {S T : Type 0} → Ghosts S → Held S → Held S → Result T (Fault × Bool) → Type 0
UpgradesEach g old new result =
    HasCleanDisk (state g new) → (world : World) → IsProject world → StandsFor (state g old).now world
    → UpgradesFrom (state g old) world (state g new) result

-- If the project is at the present version, nothing is touched.
abbrev pub KeepsPresent : {S T : Type 0} → Ghosts S → Held S → Held S → Result T (Fault × Bool) → Type 0
KeepsPresent g old new result =
    HasCleanDisk (state g new) → (world : World) → IsProject world → StandsFor (state g old).now world
    → IsUpToDate world → OnOk result (KeepsAll (state g old) (state g new))

-- The changes of a plan make the upgrade.
abbrev pub MakesUpgrade : {S T : Type 0} → Ghosts S → Held S → Held S → List Change → Result T (Fault × Bool) → Type 0
MakesUpgrade g old new changes result =
    HasCleanDisk (state g new) → (world : World) (answer : Answer) → StandsFor (state g old).now world
    → ShowsWorld (state g old) world → Plans world AskUpgrade answer changes → UpgradesFrom (state g old) world (state g new) result

-- After each fault except `Memory` and `Broken` the connection is open.
abbrev pub OpensUnlessFailed : {S T : Type 0} → Ghosts S → Held S → Result T (Fault × Bool) → Type 0
OpensUnlessFailed g new result =
    HasCleanDisk (state g new) → IfErr result (λ refusal. IsFailure refusal.0 ⊎ IsTrue (state g new).is_open)

-- If the tables represent a project and steps have no limit, no read before the transaction is refused.
abbrev pub ReadsProject : {S T : Type 0} → Ghosts S → Held S → Held S → Result T (Fault × Bool) → Type 0
ReadsProject g old new result =
    HasCleanDisk (state g new) → (world : World) → StandsFor (state g old).now world → IsProject world → old.step_limit ≡ None
    → IfErr result (λ refusal. refusal.1 ≡ false → refusal.0 ≢ NotAProject)
