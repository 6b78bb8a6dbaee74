-- What is done for a line over a project.
use Rattle.std.specs.Prelude.{◌≡◌, ℕ, List, [], Option, Some, None, Result, Ok, Err}
use Rattle.sqlite_trees.specs.declared.store.Store.{Ghosts}
use Rattle.wu_core.specs.declared.fault.Fault.{Fault}
use Rattle.wu_passes.specs.declared.project.Project.{Project}
use Rattle.wu_drive.specs.declared.runs.Run.{Run}
use Rattle.wu_machine.specs.declared.command.Command.{Command}
use Rattle.wu_drive.specs.Running.{RunsList}
use Rattle.wu_report.specs.Seeing.{Sees}
use Rattle.wu_arguments.specs.declared.action.Action.{Action}
use Rattle.wu_arguments.specs.declared.action.Action.TheVariants.{Commands, Look, Refused}

-- The commands of an action; a view has none.
abbrev pub commands_of_action : Action → List Command
commands_of_action (Commands commands) = commands
commands_of_action (Look view) = []
commands_of_action (Refused fault) = []

-- The result of a call that ended with this fault, or without one.
abbrev pub as_result : Option Fault → Result (Unit {0}) Fault
as_result None = Ok tt
as_result (Some fault) = Err fault

-- The commands of an action are run, or its view is shown, and this ended it. A refused one does nothing and ends with
-- its fault.
abbrev pub Performs : {S W : Type 0} {store : Ghosts S} → (W → Option (List ℕ)) → Project S store → Project S store → W → W → Action → Option Fault → Type 0
Performs contents old new out_old out_new (Commands commands) end =
    (run : Run) × RunsList contents old new out_old out_new commands run × (run.end ≡ end)
Performs contents old new out_old out_new (Look view) end = Sees contents old new out_old out_new view (as_result end)
Performs contents old new out_old out_new (Refused fault) end = (new ≡ old) × (out_new ≡ out_old) × (end ≡ Some fault)
