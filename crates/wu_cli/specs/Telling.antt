-- How many commands of a script were done over a world, and what it printed of them.
use Rattle.std.specs.Prelude.{◌≡◌, ◌⊎◌, ℕ, ◌+◌, Bool, List, [], ◌∷◌, ◌++◌, length, take, Option, Some, None}
use Rattle.std.specs.Io.KnownBytes.{Appends}
use Rattle.sqlite.specs.State.{State, HasCleanDisk}
use Rattle.sqlite_trees.specs.declared.store.Store.{Ghosts}
use Rattle.wu_core.specs.World.{World}
use Rattle.wu_core.specs.declared.fault.Fault.{Fault}
use Rattle.wu_core.specs.declared.fault.Fault.TheVariants.{NotAProject, Output}
use Rattle.wu_drive.specs.Driving.{AnswerAll, Drives, Lengthens, session_of, world_after}
use Rattle.wu_drive.specs.Writing.{WritesAnswers}
use Rattle.wu_machine.specs.declared.command.Answer.{Answer}
use Rattle.wu_machine.specs.declared.command.Command.{Command}
use Rattle.wu_machine.specs.Sessions.{Lived, world_of_life}
use Rattle.wu_passes.specs.declared.project.Project.{Project}
use Rattle.wu_passes.specs.Projects.{IsOver, IsSessionOpen, state_of}
use Rattle.wu_report.specs.Texts.{view_text}
use Rattle.wu_report.specs.Writing.{AppendsFront}
use Rattle.wu_arguments.specs.declared.action.Action.{Action}
use Rattle.wu_arguments.specs.declared.action.Action.TheVariants.{Commands, Look, Refused}
use Rattle.wu_arguments.specs.declared.script.Mode.{Mode}
use Rattle.wu_arguments.specs.declared.script.Mode.TheVariants.{Once, Repeated, Tried}
use Rattle.wu_arguments.specs.declared.step.LineFault.{LineFault}
use Rattle.wu_arguments.specs.declared.step.Step.{Step}
use Rattle.wu_cli.specs.Endings.{fault_line}
use Rattle.wu_cli.specs.Performing.{commands_of_action}
use Rattle.wu_cli.specs.Printing.{printed_accepted, printed_steps, printed_until}
use Rattle.wu_cli.specs.Repeating.{commands_of_steps, RanAs, unrolled, world_behind_steps}
use Rattle.wu_cli.specs.Trying.{accepted_commands, refusal_line, refusal_of, RanStep}
use Rattle.wu_cli.specs.Scripting.{so_far}

-- What an action printed that ended with a fault. Of commands, the texts of the answers to those that were done, the
-- last one cut only with `Output`. Of a view, a prefix.
abbrev pub TellsAction : Option (List ℕ) → Option (List ℕ) → World → Action → ℕ → Fault → Type 0
TellsAction before after world (Commands commands) count fault =
    (answers : List Answer) × AnswerAll world (take count commands) answers
    × WritesAnswers before after answers (record { acknowledged = count; end = Some fault })
TellsAction before after world (Look view) count fault = (count ≡ 0) × AppendsFront before after (view_text world view)
TellsAction before after world (Refused why) count fault = (count ≡ 0) × AppendsFront before after []

-- So many commands of a tried action were done, all before the refused one, and their answers went out. Of the line of
-- the refusal only a prefix did.
pub record CutsRefusal (before after : Option (List ℕ)) (commands : List Command) (answers line : List ℕ) (count : ℕ) (fault : Fault) : Type 0 where
  pub all : count ≡ length commands
  pub output : fault ≡ Output
  pub mid : Option (List ℕ)
  pub whole : Appends before mid answers
  pub front : AppendsFront mid after line

-- What an action printed that was done in this way and ended with a fault.
abbrev pub TellsBy : Mode → Option (List ℕ) → Option (List ℕ) → World → Action → ℕ → Fault → Type 0
TellsBy Once before after world action count fault = TellsAction before after world action count fault
TellsBy Repeated before after world action count fault = TellsAction before after world action count fault
TellsBy Tried before after world action count fault =
    TellsAction before after world action count fault
    ⊎ CutsRefusal before after (accepted_commands world (commands_of_action action)) (printed_accepted world action) (refusal_line (refusal_of world action)) count fault

-- Likewise of one that the store may have stopped: then the output failed at the line of that refusal.
abbrev pub TellsAs : Option ℕ → Mode → Option (List ℕ) → Option (List ℕ) → World → Action → ℕ → Fault → Type 0
TellsAs None mode before after world action count fault = TellsBy mode before after world action count fault
TellsAs (Some stopped) mode before after world action count fault =
    CutsRefusal before after (take stopped (commands_of_action action)) (printed_until stopped world action) (fault_line NotAProject) count fault

-- So many commands of the steps were done. Each step before the one that failed printed all its text. That one printed
-- what reports its done commands.
pub record TellsUntil (before after : Option (List ℕ)) (world : World) (steps : List RanStep) (count : ℕ) (fault : Fault) : Type 0 where
  pub front : List RanStep
  pub last : RanStep
  pub behind : List RanStep
  pub order : steps ≡ front ++ last ∷ behind
  pub mid : Option (List ℕ)
  pub whole : Appends before mid (printed_steps world front)
  pub done : ℕ
  pub counted : count ≡ length (commands_of_steps world front) + done
  pub part : TellsAs last.stop last.step.mode mid after (world_behind_steps world front) last.step.action done fault

-- Without a fault all steps printed their whole text; with one, as far as they were done.
abbrev pub TellsSteps : Option (List ℕ) → Option (List ℕ) → World → List RanStep → ℕ → Option LineFault → Type 0
TellsSteps before after world steps count None = Appends before after (printed_steps world steps)
TellsSteps before after world steps count (Some end) = TellsUntil before after world steps count end.fault

-- So many commands of these steps were done, each with the machine's reply, and the tables represent the world after
-- them. If the session ended within the next command, a crash may also leave the world after that one. What went out
-- reports as many commands. Without a fault all were done.
pub record DrivesCommands (world : World) (steps : List RanStep) (end : Option LineFault) (before after : Option (List ℕ)) (new : State) : Type 0 where
  pub count : ℕ
  pub answers : List Answer
  pub is_cut : Bool
  pub drives : Drives world (commands_of_steps world steps) answers (so_far count) is_cut new
  pub told : TellsSteps before after world steps count end
  pub whole : end ≡ None → count ≡ length (commands_of_steps world steps)

module _ {S W : Type 0} {store : Ghosts S} (contents : W → Option (List ℕ)) where
  -- On a clean disk, a script does a prefix of its commands over each world over which its session goes on. If the
  -- session has not ended then, it goes on over the world after these.
  abbrev pub DrivesSteps : Project S store → Project S store → W → W → List Step → Option LineFault → Type 0
  DrivesSteps old new out_old out_new steps end =
      IsSessionOpen old → HasCleanDisk (state_of new) → (world : World) → IsOver old world
      → (ran : List RanStep) × RanAs steps ran
      × (it : DrivesCommands world (unrolled world ran) end (contents out_old) (contents out_new) (state_of new))
      × (IsSessionOpen new → IsOver new (world_after world (commands_of_steps world (unrolled world ran)) it.count))

  -- If a history of sessions led to the world, the script's commands lengthen it by one session. Each world that a
  -- crash may leave is that of the longer history, with the cut command in or out.
  abbrev pub LengthensBySteps : Project S store → Project S store → W → W → List Step → Option LineFault → Type 0
  LengthensBySteps old new out_old out_new steps end =
      IsSessionOpen old → HasCleanDisk (state_of new) → (start : World) (life : List Lived) → IsOver old (world_of_life start life)
      → (ran : List RanStep) × RanAs steps ran
      × (it : DrivesCommands (world_of_life start life) (unrolled (world_of_life start life) ran) end (contents out_old) (contents out_new) (state_of new))
      × Lengthens start life (session_of (commands_of_steps (world_of_life start life) (unrolled (world_of_life start life) ran)) (so_far it.count) it.is_cut) (state_of new)
