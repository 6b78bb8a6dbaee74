-- A command over a represented world, whatever a crash could leave before it.
use Rattle.std.specs.Prelude.{◌≡◌, ◌⊎◌, Bool, true, false, Result, Ok, Err, MatchResult}
use Rattle.sqlite.specs.State.{State}
use Rattle.sqlite.specs.Tree.{Trees}
use Rattle.wu_core.specs.declared.fault.Fault.{Fault}
use Rattle.wu_core.specs.World.{World}
use Rattle.wu_machine.specs.declared.command.Answer.{Answer}
use Rattle.wu_machine.specs.Commands.{reply_of_answer}
use Rattle.wu_machine.specs.Machine.{reply, step}
use Rattle.wu_machine.specs.Requests.{Request}
use Rattle.wu_passes.specs.Adopting.{KeepsAll, LeavesNoMore}
use Rattle.wu_passes.specs.Committing.{FoundSparing}
use Rattle.wu_passes.specs.Standing.{GoesOn, ShowsWorld}
use Rattle.wu_schema.specs.Others.{SparesOthers}
use Rattle.wu_store.specs.Loading.{IsStoreFault}

-- The command is done: a crash leaves only the machine's step, and the tables of other programs stay; or nothing was to
-- be made, and all is as it was.
abbrev pub LeavesStepAlone : State → State → World → Request → Type 0
LeavesStepAlone old new world request =
    (GoesOn new (step world request) × SparesOthers old.now new.now) ⊎ ((step world request ≡ world) × KeepsAll old new)

-- The command is not done: a crash leaves no more than it could before. If the session ended, it may also leave the
-- machine's step, and the tables of other programs stay with it.
abbrev pub LeavesAtMost : Bool → State → State → World → Request → Type 0
LeavesAtMost false old new world request = LeavesNoMore old new
LeavesAtMost true old new world request =
    (db : Trees) → new.may_leave db → old.may_leave db ⊎ FoundSparing old.now db (step world request)

-- The command is done with the machine's reply; or it is not done, and the tables represent the same world.
abbrev pub RunsFrom : State → World → Request → Bool → State → Result Answer Fault → Type 0
RunsFrom old world request has_ended new result =
    MatchResult result
    (λ answer. (reply world request ≡ Ok (reply_of_answer answer)) × LeavesStepAlone old new world request)
    (λ fault. ((reply world request ≡ Err fault) ⊎ IsStoreFault fault) × ShowsWorld new world × LeavesAtMost has_ended old new world request)
