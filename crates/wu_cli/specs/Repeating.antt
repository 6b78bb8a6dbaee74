-- How often the steps of a script are done: a repeated pass, until it handles less than its limit.
use Rattle.std.specs.Prelude.{◌≡◌, ◌≤◌, ℕ, zero, suc, Bool, false, List, [], ◌∷◌, ◌++◌, ◌==◌, if◌then◌else◌, map, take, replicate, Option, Some, None, IfSome}
use Rattle.wu_core.specs.World.{World}
use Rattle.wu_drive.specs.Counting.{last_handled}
use Rattle.wu_machine.specs.declared.command.Command.{Command}
use Rattle.wu_machine.specs.Commands.{request_of}
use Rattle.wu_machine.specs.Machine.{fold_steps}
use Rattle.wu_machine.specs.Requests.{AskPass, Request}
use Rattle.wu_arguments.specs.declared.action.Action.{Action}
use Rattle.wu_arguments.specs.declared.action.Action.TheVariants.{Commands, Look, Refused}
use Rattle.wu_arguments.specs.declared.script.Mode.{Mode}
use Rattle.wu_arguments.specs.declared.script.Mode.TheVariants.{Once, Repeated, Tried}
use Rattle.wu_arguments.specs.declared.step.Step.{Step}
use Rattle.wu_cli.specs.Performing.{commands_of_action}
use Rattle.wu_cli.specs.Trying.{accepted_commands, RanStep, step_as}
use Rattle.wu_cli.specs.declared.repeating.TheConstants.{MOST_ROUNDS}

-- ---- the commands of a script

-- Only a tried step is stopped.
abbrev pub MayStop : Step → Option ℕ → Type 0
MayStop step stop = IfSome stop (λ count. step.mode ≡ Tried)

-- The steps of a script ran as these, in order.
abbrev pub RanAs : List Step → List RanStep → Type 0
RanAs [] ran = ran ≡ []
RanAs (step ∷ steps) ran =
    (stop : Option ℕ) × (more : List RanStep) × (ran ≡ step_as step stop ∷ more) × MayStop step stop × RanAs steps more

-- The commands of an action that is done in this way: of a tried one, those that the machine accepts.
abbrev pub commands_by : Mode → World → Action → List Command
commands_by Once world action = commands_of_action action
commands_by Repeated world action = commands_of_action action
commands_by Tried world action = accepted_commands world (commands_of_action action)

-- Likewise of one that the store may have stopped.
abbrev pub commands_as : Option ℕ → Mode → World → Action → List Command
commands_as None mode world action = commands_by mode world action
commands_as (Some count) mode world action = take count (commands_of_action action)

abbrev pub commands_of_step : World → RanStep → List Command
commands_of_step world ran = commands_as ran.stop ran.step.mode world ran.step.action

-- The machine's world after a step.
abbrev pub world_behind : World → RanStep → World
world_behind world ran = fold_steps world (map request_of (commands_of_step world ran))

-- The commands of steps, in order, each over the world that the steps before it left; a view has none.
abbrev pub commands_of_steps : World → List RanStep → List Command
commands_of_steps world [] = []
commands_of_steps world (step ∷ steps) = commands_of_step world step ++ commands_of_steps (world_behind world step) steps

-- The machine's world after steps.
abbrev pub world_behind_steps : World → List RanStep → World
world_behind_steps world steps = fold_steps world (map request_of (commands_of_steps world steps))

-- ---- whether there may be more to do

-- How many workunits a pass may handle; `None` for any other request.
abbrev pub limit_of : Request → Option ℕ
limit_of (AskPass pass now limit min_age) = Some limit
limit_of _ = None

-- Whether the number of handled workunits is the limit.
abbrev pub is_at_limit : Option ℕ → Option ℕ → Bool
is_at_limit (Some limit) (Some handled) = limit == handled
is_at_limit _ _ = false

-- Whether the commands are one pass that handled as many workunits as it may.
abbrev pub fill_limit : List Command → Option ℕ → Bool
fill_limit (command ∷ []) handled = is_at_limit (limit_of (request_of command)) handled
fill_limit _ handled = false

-- Whether an action over this world is one pass that handles as many workunits as it may, so that there may be more to
-- do.
abbrev pub is_full : World → Action → Bool
is_full world (Commands commands) = fill_limit commands (last_handled world commands)
is_full world (Look view) = false
is_full world (Refused fault) = false

-- ---- how often

-- How often a step may be done: a repeated one at most a million times, any other once.
abbrev pub most_rounds : Mode → ℕ
most_rounds Once = 1
most_rounds Repeated = MOST_ROUNDS
most_rounds Tried = 1

-- How often a step is done over a world: once, and again after each time that it handled its limit, up to this number.
abbrev pub rounds_of : World → RanStep → ℕ → ℕ
rounds_of world ran zero = zero
rounds_of world ran (suc most) = suc (if is_full world ran.step.action then rounds_of (world_behind world ran) ran most else zero)

abbrev pub rounds : World → RanStep → ℕ
rounds world ran = rounds_of world ran (most_rounds ran.step.mode)

-- The steps of a script as they are done over a world, each as often as it is done there.
abbrev pub unrolled : World → List RanStep → List RanStep
unrolled world [] = []
unrolled world (step ∷ steps) =
    replicate (rounds world step) step ++ unrolled (world_behind_steps world (replicate (rounds world step) step)) steps

-- The steps that ran are those of the script, in order: each at least once, a repeated one at most a million times, any
-- other once.
abbrev pub AreRepeated : List RanStep → List RanStep → Type 0
AreRepeated [] ran = ran ≡ []
AreRepeated (step ∷ steps) ran =
    (times : ℕ) × (more : List RanStep) × (ran ≡ replicate times step ++ more) × (1 ≤ times) × (times ≤ most_rounds step.step.mode) × AreRepeated steps more
