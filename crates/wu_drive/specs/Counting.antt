-- How many workunits the last command of a run handled.
use Rattle.std.specs.Prelude.{◌≡◌, ℕ, List, [], ◌∷◌, take, Option, Some, None, Result, Ok}
use Rattle.sqlite.specs.State.{HasCleanDisk}
use Rattle.sqlite_trees.specs.declared.store.Store.{Ghosts}
use Rattle.wu_core.specs.World.{World}
use Rattle.wu_core.specs.declared.fault.Fault.{Fault}
use Rattle.wu_machine.specs.declared.command.Command.{Command}
use Rattle.wu_machine.specs.Commands.{request_of}
use Rattle.wu_machine.specs.Machine.{reply, step}
use Rattle.wu_machine.specs.Requests.{Passed, Reply}
use Rattle.wu_passes.specs.declared.project.Project.{Project}
use Rattle.wu_passes.specs.Projects.{IsSessionOpen, ShowsProject, state_of}
use Rattle.wu_drive.specs.declared.runs.Run.{Run}

-- How many workunits a pass handled, by the machine's reply; `None` for any other reply.
abbrev pub handled_by : Result Reply Fault → Option ℕ
handled_by (Ok (Passed pass handled)) = Some handled
handled_by _ = None

-- How many workunits the last of these commands handled, after the commands before it; `None` if it is no pass.
abbrev pub last_handled : World → List Command → Option ℕ
last_handled world [] = None
last_handled world (command ∷ []) = handled_by (reply world (request_of command))
last_handled world (command ∷ next ∷ commands) = last_handled (step world (request_of command)) (next ∷ commands)

-- Over a world that the tables represent, on a clean disk, this is the number that the last done command handled.
abbrev pub CountsLast : {S : Type 0} {store : Ghosts S} → Project S store → Project S store → List Command → Run → Option ℕ → Type 0
CountsLast old new commands run handled =
    IsSessionOpen old → HasCleanDisk (state_of new) → (world : World) → ShowsProject old world
    → handled ≡ last_handled world (take run.acknowledged commands)
