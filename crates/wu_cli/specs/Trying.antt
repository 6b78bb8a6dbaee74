-- A tried line: the commands that the machine accepts of it, and what becomes of a refusal by the machine or the store.
use Rattle.std.specs.Prelude.{◌≡◌, ◌≢◌, ◌⊎◌, ◌-◌, ℕ, Bool, true, false, List, [], ◌∷◌, length, option_map, Option, Some, None, Result, Ok, Err}
use Rattle.std.specs.Io.KnownBytes.{Appends}
use Rattle.sqlite_trees.specs.declared.store.Store.{Ghosts}
use Rattle.wu_core.specs.World.{World}
use Rattle.wu_core.specs.declared.fault.Fault.{Fault}
use Rattle.wu_core.specs.declared.fault.Fault.TheVariants as fault
use Rattle.wu_machine.specs.declared.command.Command.{Command}
use Rattle.wu_machine.specs.Commands.{request_of}
use Rattle.wu_machine.specs.Machine.{reply, step}
use Rattle.wu_machine.specs.Requests.{Reply}
use Rattle.wu_passes.specs.Adopting.{older_than_present}
use Rattle.wu_passes.specs.declared.project.Project.{Project}
use Rattle.wu_drive.specs.Running.{RunsList}
use Rattle.wu_drive.specs.declared.runs.Run.{Run}
use Rattle.wu_report.specs.Seeing.{Sees}
use Rattle.wu_report.specs.Writing.{AppendsFront}
use Rattle.wu_arguments.specs.declared.action.Action.{Action}
use Rattle.wu_arguments.specs.declared.action.Action.TheVariants.{Commands, Look, Refused}
use Rattle.wu_arguments.specs.declared.script.Mode.{Mode}
use Rattle.wu_arguments.specs.declared.script.Mode.TheVariants.{Once, Repeated, Tried}
use Rattle.wu_arguments.specs.declared.step.Step.{Step}
use Rattle.wu_cli.specs.Endings.{fault_line}
use Rattle.wu_cli.specs.Performing.{as_result, Performs}

-- Whether the machine may refuse a request with this fault: it is none of the store, of an ended session or of the
-- output.
abbrev pub is_refusal : Fault → Bool
is_refusal fault.NotAProject = false
is_refusal fault.Memory = false
is_refusal fault.Broken = false
is_refusal fault.Ended = false
is_refusal fault.Output = false
is_refusal _ = true

-- ---- over a world

-- A command before others, if the machine accepts it.
abbrev pub if_accepted : Result Reply Fault → Command → List Command → List Command
if_accepted (Ok answer) command more = command ∷ more
if_accepted (Err fault) command more = []

-- The commands that the machine accepts, one after another, up to its first refusal.
abbrev pub accepted_commands : World → List Command → List Command
accepted_commands world [] = []
accepted_commands world (command ∷ commands) =
    if_accepted (reply world (request_of command)) command (accepted_commands (step world (request_of command)) commands)

-- The refusal of a command, or else that of the commands after it.
abbrev pub refused_or : Result Reply Fault → Option Fault → Option Fault
refused_or (Ok answer) more = more
refused_or (Err fault) more = Some fault

-- The machine's first refusal of these commands, one after another.
abbrev pub first_refusal : World → List Command → Option Fault
first_refusal world [] = None
first_refusal world (command ∷ commands) =
    refused_or (reply world (request_of command)) (first_refusal (step world (request_of command)) commands)

-- Why an action is refused over a world; a view is, over an older version, and a refused one is over each.
abbrev pub refusal_of : World → Action → Option Fault
refusal_of world (Commands commands) = first_refusal world commands
refusal_of world (Look view) = option_map fault.OldSchema (older_than_present world.version)
refusal_of world (Refused fault) = Some fault

-- The line that goes out for a refusal.
abbrev pub refusal_line : Option Fault → List ℕ
refusal_line None = []
refusal_line (Some fault) = fault_line fault

-- ---- over a project

module _ {W : Type 0} (contents : W → Option (List ℕ)) where
  -- The line of the refusal goes out and nothing ended the step; or a prefix of it, and the output did.
  abbrev pub PassesOver : W → W → Fault → Option Fault → Type 0
  PassesOver out_old out_new refused None = Appends (contents out_old) (contents out_new) (fault_line refused)
  PassesOver out_old out_new refused (Some end) = (end ≡ fault.Output) × AppendsFront (contents out_old) (contents out_new) (fault_line refused)

  -- An action ended so, and so its step did: a refusal is passed over, and any other fault but F13 ends the step.
  abbrev pub EndsTried : W → W → Option Fault → Option Fault → Type 0
  EndsTried out_old out_new None end = (end ≡ None) × (out_new ≡ out_old)
  EndsTried out_old out_new (Some told) end =
      ((is_refusal told ≡ true) × PassesOver out_old out_new told end)
      ⊎ ((is_refusal told ≡ false) × (told ≢ fault.NotAProject) × (end ≡ Some told) × (out_new ≡ out_old))

module _ {S W : Type 0} {store : Ghosts S} (contents : W → Option (List ℕ)) where
  -- The action is done, and its refusal is passed over.
  pub record Tries (old new : Project S store) (out_old out_new : W) (action : Action) (end : Option Fault) : Type 0 where
    pub told : Option Fault
    pub out_done : W
    pub does : Performs contents old new out_old out_done action told
    pub ends : EndsTried contents out_done out_new told end

  -- An action is done in this way, and this ended it.
  abbrev pub PerformsBy : Mode → Project S store → Project S store → W → W → Action → Option Fault → Type 0
  PerformsBy Once old new out_old out_new action end = Performs contents old new out_old out_new action end
  PerformsBy Repeated old new out_old out_new action end = Performs contents old new out_old out_new action end
  PerformsBy Tried old new out_old out_new action end = Tries old new out_old out_new action end

-- ---- stopped by the store

-- A step as it ran. The store stopped a tried one behind so many of its commands, where it refused the next one, or
-- behind so many bytes of its view.
pub record RanStep : Type 0 where
  pub step : Step
  pub stop : Option ℕ

-- The step, which the store stopped so or not.
abbrev pub step_as : Step → Option ℕ → RanStep
step_as step stop = record { step = step; stop = stop }

-- By how many bytes the contents of a writer grew.
abbrev pub growth : Option (List ℕ) → Option (List ℕ) → ℕ
growth (Some before) (Some after) = length after - length before
growth _ _ = 0

-- The run of a list of which the store refused the command after these many.
abbrev pub stopped_at : ℕ → Run
stopped_at count = record { acknowledged = count; end = Some fault.NotAProject }

module _ {S W : Type 0} {store : Ghosts S} (contents : W → Option (List ℕ)) where
  -- The store stopped an action: of commands, so many are done, and it refused the next one. Of a view, so many bytes
  -- are out.
  abbrev pub StopsAction : Project S store → Project S store → W → W → Action → ℕ → Type 0
  StopsAction old new out_old out_new (Commands commands) count = RunsList contents old new out_old out_new commands (stopped_at count)
  StopsAction old new out_old out_new (Look view) count =
      Sees contents old new out_old out_new view (as_result (Some fault.NotAProject)) × (count ≡ growth (contents out_old) (contents out_new))
  StopsAction old new out_old out_new (Refused why) count = Performs contents old new out_old out_new (Refused why) (Some fault.NotAProject)

  -- The store stopped a tried action, and the line of its refusal goes out behind what the action printed.
  pub record Stops (old new : Project S store) (out_old out_new : W) (mode : Mode) (action : Action) (count : ℕ) (end : Option Fault) : Type 0 where
    pub tried : mode ≡ Tried
    pub out_done : W
    pub does : StopsAction old new out_old out_done action count
    pub passed : PassesOver contents out_done out_new fault.NotAProject end

  -- An action is done in this way, and this ended it. The store did not stop it, or stopped it there.
  abbrev pub PerformsAs : Option ℕ → Mode → Project S store → Project S store → W → W → Action → Option Fault → Type 0
  PerformsAs None mode old new out_old out_new action end = PerformsBy contents mode old new out_old out_new action end
  PerformsAs (Some count) mode old new out_old out_new action end = Stops old new out_old out_new mode action count end

  -- A step is done as it ran, and this ended it.
  abbrev pub PerformsRan : RanStep → Project S store → Project S store → W → W → Option Fault → Type 0
  PerformsRan ran old new out_old out_new end = PerformsAs ran.stop ran.step.mode old new out_old out_new ran.step.action end

  -- A tried action is done. What the machine or the store refuses of it is passed over.
  abbrev pub Attempts : Project S store → Project S store → W → W → Action → Option Fault → Type 0
  Attempts old new out_old out_new action end = (stop : Option ℕ) × PerformsAs stop Tried old new out_old out_new action end
