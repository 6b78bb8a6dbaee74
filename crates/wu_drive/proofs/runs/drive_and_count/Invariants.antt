use Rattle.std.proofs.Common.{◌≡◌, ◌≤◌, IsTrue, true, false, List, length, take}
use Rattle.std.specs.Io.KnownBytes.{Appends}
use Rattle.sqlite.specs.State.{HasCleanDisk}
use Rattle.wu_core.specs.World.{World}
use Rattle.wu_machine.specs.declared.command.Answer.{Answer}
use Rattle.wu_drive.proofs.DrivingLemmas.{IsDriving, IsDrivingFrom}
use Rattle.wu_drive.specs.Counting.{last_handled}
use Rattle.wu_drive.specs.Driving.{MakeNothing}
use Rattle.wu_passes.specs.Adopting.{KeepsAll}
use Rattle.wu_passes.specs.Projects.{IsOver, IsSessionOpen, has_ended, KeepsLimit, ShowsProject, state_of, StaysOpen, StaysShut}
use Rattle.wu_passes.specs.Standing.{FaultsOnlyGrow}
use Rattle.wu_drive.specs.Writing.{answers_text}
use Rattle.wu_drive.proofs.runs.drive_and_count.Given as goal

abbrev pub invariant-loop-command : goal.invariant-loop-command
invariant-loop-command g l =
    (l.acknowledged ≡ l.command-index)
    × (has_ended l.initial.project ≡ true → (l.command-index ≡ 0) × (l.project ≡ l.initial.project) × (l.out ≡ l.initial.out))
    × (IsSessionOpen l.initial.project → IsSessionOpen l.project)
    × KeepsLimit l.initial.project l.project
    × (FaultsOnlyGrow (state_of l.initial.project) (state_of l.project))
    × ((state_of l.initial.project).faults ≤ (state_of l.project).faults)
    × (IsSessionOpen l.initial.project → IsTrue (state_of l.initial.project).is_open → HasCleanDisk (state_of l.project) → IsTrue (state_of l.project).is_open)
    × (l.command-index ≡ 0 → l.project ≡ l.initial.project)
    × (IsSessionOpen l.initial.project → HasCleanDisk (state_of l.project) → (world : World) → ShowsProject l.initial.project world
    → MakeNothing world (take l.command-index l.commands) → KeepsAll (state_of l.initial.project) (state_of l.project))
    × (IsSessionOpen l.initial.project → HasCleanDisk (state_of l.project) → (world : World) → ShowsProject l.initial.project world
    → l.handled ≡ last_handled world (take l.command-index l.commands))
    × ((answers : List Answer) × (length answers ≡ l.acknowledged) × Appends (g.W.Write.contents l.initial.out) (g.W.Write.contents l.out) (answers_text answers)
    × (has_ended l.initial.project ≡ false → HasCleanDisk (state_of l.project) → (world : World) → IsOver l.initial.project world
    → IsDriving world l.commands answers l.command-index l.project)
    × (has_ended l.initial.project ≡ false → HasCleanDisk (state_of l.project) → (world : World) → ShowsProject l.initial.project world
    → IsDrivingFrom world l.commands answers l.command-index l.project))
    × StaysOpen l.initial.project l.project
    × StaysShut l.initial.project l.project
