-- What is done for the steps of a script over a project.
use Rattle.std.specs.Prelude.{◌≡◌, ◌≤◌, ℕ, Bool, List, [], ◌∷◌, ◌++◌, replicate, Option, Some, None}
use Rattle.sqlite.specs.State.{HasCleanDisk}
use Rattle.sqlite_trees.specs.declared.store.Store.{Ghosts}
use Rattle.wu_core.specs.World.{World}
use Rattle.wu_core.specs.declared.fault.Fault.{Fault}
use Rattle.wu_drive.specs.declared.runs.Run.{Run}
use Rattle.wu_passes.specs.declared.project.Project.{Project}
use Rattle.wu_passes.specs.Projects.{IsSessionOpen, ShowsProject, state_of}
use Rattle.wu_cli.specs.Trying.{PerformsRan, RanStep, step_as}
use Rattle.wu_cli.specs.Repeating.{AreRepeated, is_full, MayStop, most_rounds, RanAs, rounds, unrolled}
use Rattle.wu_arguments.specs.declared.action.Action.{Action}
use Rattle.wu_arguments.specs.declared.script.Mode.TheVariants.{Repeated}
use Rattle.wu_arguments.specs.declared.step.LineFault.{LineFault}
use Rattle.wu_arguments.specs.declared.step.Step.{Step}

-- ---- step by step

module _ {S W : Type 0} {store : Ghosts S} (contents : W → Option (List ℕ)) where
  -- Each step is done in order, over what the step before it left, and none ends with a fault. A tried one that is
  -- refused ends without one.
  unfoldable pub PerformsEach : Project S store → Project S store → W → W → List RanStep → Type 0
  PerformsEach old new out_old out_new [] = (new ≡ old) × (out_new ≡ out_old)
  PerformsEach old new out_old out_new (step ∷ more) =
      (mid : Project S store) × (out_mid : W) × PerformsRan contents step old mid out_old out_mid None × PerformsEach mid new out_mid out_new more

  -- The steps before this one are done, this one ends with this fault, and those after it are not begun.
  pub record PerformsUntil (old new : Project S store) (out_old out_new : W) (steps : List RanStep) (end : LineFault) : Type 0 where
    pub before : List RanStep
    pub last : RanStep
    pub after : List RanStep
    pub order : steps ≡ before ++ last ∷ after
    pub number : last.step.number ≡ end.number
    pub mid : Project S store
    pub out_mid : W
    pub each : PerformsEach old mid out_old out_mid before
    pub ends : PerformsRan contents last mid new out_mid out_new (Some end.fault)

  -- Without a fault all steps are done, each once; with a fault, those before the one that ended so.
  abbrev pub PerformsSteps : Project S store → Project S store → W → W → List RanStep → Option LineFault → Type 0
  PerformsSteps old new out_old out_new steps None = PerformsEach old new out_old out_new steps
  PerformsSteps old new out_old out_new steps (Some end) = PerformsUntil old new out_old out_new steps end

-- ---- as often as they are repeated

module _ {S W : Type 0} {store : Ghosts S} (contents : W → Option (List ℕ)) where
  -- A step is done at least once, a repeated one at most a million times, and any other once. Over a represented world
  -- on a clean disk the number is the one that the machine's answers give.
  pub record PerformsStep (old new : Project S store) (out_old out_new : W) (step : Step) (end : Option LineFault) : Type 0 where
    pub stop : Option ℕ
    pub may_stop : MayStop step stop
    pub times : ℕ
    pub some : 1 ≤ times
    pub most : times ≤ most_rounds step.mode
    pub does : PerformsSteps contents old new out_old out_new (replicate times (step_as step stop)) end
    pub over :
        IsSessionOpen old → HasCleanDisk (state_of new) → (world : World) → ShowsProject old world
        → PerformsSteps contents old new out_old out_new (replicate (rounds world (step_as step stop)) (step_as step stop)) end

  -- The steps of a script are done in order, each at least once, a repeated one at most a million times, and any other
  -- once. Over a represented world on a clean disk these numbers are those that the machine's answers give.
  pub record PerformsScript (old new : Project S store) (out_old out_new : W) (steps : List Step) (end : Option LineFault) : Type 0 where
    pub as_ran : List RanStep
    pub are : RanAs steps as_ran
    pub ran : List RanStep
    pub repeats : AreRepeated as_ran ran
    pub does : PerformsSteps contents old new out_old out_new ran end
    pub over :
        IsSessionOpen old → HasCleanDisk (state_of new) → (world : World) → ShowsProject old world
        → PerformsSteps contents old new out_old out_new (unrolled world as_ran) end

-- The fault that ended an action, with the line of its step.
abbrev pub line_fault : ℕ → Option Fault → Option LineFault
line_fault number None = None
line_fault number (Some fault) = Some (record { number = number; fault = fault })

-- An action is done as a repeated step of any line, and this ended it.
abbrev pub Repeats : {S W : Type 0} {store : Ghosts S} → (W → Option (List ℕ)) → Project S store → Project S store → W → W → Action → Option Fault → Type 0
Repeats contents old new out_old out_new action end =
    (number : ℕ) → PerformsStep contents old new out_old out_new (record { number = number; mode = Repeated; action = action }) (line_fault number end)

-- Over a represented world, on a clean disk, this reports whether a done action handled its limit.
abbrev pub TellsFull : {S : Type 0} {store : Ghosts S} → Project S store → Project S store → Action → Option Fault → Bool → Type 0
TellsFull old new action end told =
    end ≡ None → IsSessionOpen old → HasCleanDisk (state_of new) → (world : World) → ShowsProject old world
    → told ≡ is_full world action

-- The run of a list of which so many commands are acknowledged.
abbrev pub so_far : ℕ → Run
so_far count = record { acknowledged = count; end = None }
