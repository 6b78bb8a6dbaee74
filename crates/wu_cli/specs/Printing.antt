-- What is printed over a world: the texts of the machine's answers and of views, in the order of the actions.
use Rattle.std.specs.Prelude.{ℕ, List, [], ◌∷◌, ◌++◌, take, Option, Some, None, Result, Ok, Err}
use Rattle.sqlite.specs.Held.{Held, state}
use Rattle.sqlite.specs.State.{HasCleanDisk}
use Rattle.sqlite.specs.Store.{Ghosts}
use Rattle.wu_core.specs.World.{World}
use Rattle.wu_core.specs.declared.fault.Fault.{Fault}
use Rattle.wu_core.specs.declared.fault.Fault.TheVariants.{NotAProject}
use Rattle.wu_machine.specs.declared.command.Command.{Command}
use Rattle.wu_machine.specs.Commands.{request_of}
use Rattle.wu_machine.specs.Machine.{reply, step}
use Rattle.wu_machine.specs.Requests.{Reply}
use Rattle.wu_machine.specs.Sound.{IsProject}
use Rattle.wu_passes.specs.Adopting.{older_than_present, BeginsFrom}
use Rattle.wu_passes.specs.declared.project.Project.{Project}
use Rattle.wu_passes.specs.Projects.{IsSessionOpen, ShowsProject, state_of}
use Rattle.wu_report.specs.Texts.{view_text}
use Rattle.wu_report.specs.Writing.{WritesTo}
use Rattle.wu_drive.specs.Texts.{reply_text}
use Rattle.wu_arguments.specs.declared.action.Action.{Action}
use Rattle.wu_arguments.specs.declared.action.Action.TheVariants.{Commands, Look, Refused}
use Rattle.wu_arguments.specs.declared.script.Mode.{Mode}
use Rattle.wu_arguments.specs.declared.script.Mode.TheVariants.{Once, Repeated, Tried}
use Rattle.wu_arguments.specs.declared.step.LineFault.{LineFault}
use Rattle.wu_arguments.specs.declared.step.Step.{Step}
use Rattle.wu_cli.specs.Endings.{fault_line}
use Rattle.wu_cli.specs.Repeating.{RanAs, unrolled, world_behind}
use Rattle.wu_cli.specs.Trying.{accepted_commands, refusal_line, refusal_of, RanStep}
use Rattle.wu_cli.specs.Working.{line_outcome, script_outcome, WorkRanAs}
use Rattle.wu_cli.specs.declared.trouble.Trouble.{Trouble}
use Rattle.wu_cli.specs.declared.work.Work.{Work}
use Rattle.wu_cli.specs.declared.work.Work.TheVariants as work

-- ---- the texts

-- The text of the machine's answer; a refusal prints nothing.
abbrev pub printed_reply : Result Reply Fault → List ℕ
printed_reply (Ok answer) = reply_text answer
printed_reply (Err fault) = []

-- The texts of the machine's answers to commands, one after another.
abbrev pub printed_replies : World → List Command → List ℕ
printed_replies world [] = []
printed_replies world (command ∷ commands) =
    printed_reply (reply world (request_of command)) ++ printed_replies (step world (request_of command)) commands

-- What an action prints: its answers, or its view.
abbrev pub printed_action : World → Action → List ℕ
printed_action world (Commands commands) = printed_replies world commands
printed_action world (Look view) = view_text world view
printed_action world (Refused fault) = []

-- What is shown of a view: nothing over an older version.
abbrev pub shown_text : Option ℕ → List ℕ → List ℕ
shown_text None text = text
shown_text (Some version) text = []

-- What an action prints before its refusal, if it is refused: the answers to the commands before that.
abbrev pub printed_accepted : World → Action → List ℕ
printed_accepted world (Commands commands) = printed_replies world (accepted_commands world commands)
printed_accepted world (Look view) = shown_text (older_than_present world.version) (view_text world view)
printed_accepted world (Refused fault) = []

-- What an action prints that is done in this way: of a tried one, the line of its refusal too.
abbrev pub printed_by : Mode → World → Action → List ℕ
printed_by Once world action = printed_action world action
printed_by Repeated world action = printed_action world action
printed_by Tried world action = printed_accepted world action ++ refusal_line (refusal_of world action)

-- What an action printed until the store stopped it: the answers to so many commands, or so many bytes of its view.
abbrev pub printed_until : ℕ → World → Action → List ℕ
printed_until count world (Commands commands) = printed_replies world (take count commands)
printed_until count world (Look view) = take count (view_text world view)
printed_until count world (Refused fault) = []

-- Likewise of one that the store may have stopped: behind what it printed the line of that refusal.
abbrev pub printed_as : Option ℕ → Mode → World → Action → List ℕ
printed_as None mode world action = printed_by mode world action
printed_as (Some count) mode world action = printed_until count world action ++ fault_line NotAProject

-- What steps print, each over the world that the steps before it left.
abbrev pub printed_steps : World → List RanStep → List ℕ
printed_steps world [] = []
printed_steps world (ran ∷ more) = printed_as ran.stop ran.step.mode world ran.step.action ++ printed_steps (world_behind world ran) more

-- What a line prints, or a script whose steps ran as these.
abbrev pub printed_work : World → Work → List RanStep → List ℕ
printed_work world (work.Line action) ran = printed_action world action
printed_work world (work.Script script) ran = printed_steps world (unrolled world ran)

-- ---- what goes out: exactly this, and with a fault a prefix of it

-- Over a world that the tables represent, on a clean disk, an action prints its text, and with a fault a prefix of it.
abbrev pub PrintsAction : {S W : Type 0} {store : Ghosts S} → (W → Option (List ℕ)) → Project S store → Project S store → W → W → Action → Option Fault → Type 0
PrintsAction contents old new out_old out_new action end =
    IsSessionOpen old → HasCleanDisk (state_of new) → (world : World) → ShowsProject old world
    → WritesTo contents out_old out_new (printed_action world action) (line_outcome end)

-- Likewise the steps of a script, each as often as it is done.
abbrev pub PrintsSteps : {S W : Type 0} {store : Ghosts S} → (W → Option (List ℕ)) → Project S store → Project S store → W → W → List Step → Option LineFault → Type 0
PrintsSteps contents old new out_old out_new steps end =
    IsSessionOpen old → HasCleanDisk (state_of new) → (world : World) → ShowsProject old world
    → (ran : List RanStep) × RanAs steps ran × WritesTo contents out_old out_new (printed_steps world (unrolled world ran)) (script_outcome end)

-- Likewise work over an open database, from each world that a session over it may begin from.
abbrev pub PrintsOver : {S W : Type 0} (g : Ghosts S) → (W → Option (List ℕ)) → Held S → Held S → W → W → Work → Result (Unit {0}) Trouble → Type 0
PrintsOver g contents conn again out_old out_new asked done =
    HasCleanDisk (state g again) → (world : World) → IsProject world → BeginsFrom (state g conn) world
    → (ran : List RanStep) × WorkRanAs asked ran × WritesTo contents out_old out_new (printed_work world asked ran) done
