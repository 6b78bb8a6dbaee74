-- What words ask of a project, with all files read, and what is done for it over an open database.
use Rattle.std.specs.Prelude.{◌≡◌, ◌⊎◌, ℕ, Bool, true, List, [], length, Option, Some, None, OnOk, Result, Ok, Err}
use Rattle.sqlite.specs.Held.{Held, state}
use Rattle.sqlite.specs.State.{State, HasCleanDisk}
use Rattle.sqlite.specs.Store.{Ghosts}
use Rattle.wu_core.specs.declared.fault.Fault.{Fault}
use Rattle.wu_core.specs.declared.fault.Fault.TheVariants.{BadFile, Memory, NotAProject}
use Rattle.wu_core.specs.declared.fault.FileCause.TheVariants.{Unreadable}
use Rattle.wu_feed.specs.Limits.{longest_file}
use Rattle.wu_feed.specs.Scripts.{script_of}
use Rattle.wu_feed.specs.declared.script.ScriptLine.{ScriptLine}
use Rattle.wu_core.specs.World.{World}
use Rattle.wu_machine.specs.declared.command.Answer.{Answer}
use Rattle.wu_machine.specs.declared.command.Command.{Command}
use Rattle.wu_machine.specs.Sound.{IsProject}
use Rattle.wu_passes.specs.declared.project.Project.{Project}
use Rattle.wu_passes.specs.Adopting.{IsAdoptionFault, RefusesAdoption, BeginsFrom}
use Rattle.wu_passes.specs.Projects.{connection_of, BeginsSession}
use Rattle.wu_passes.specs.Standing.{GoesOn}
use Rattle.wu_drive.specs.Driving.{Drives}
use Rattle.wu_arguments.specs.Contents.{Prepares}
use Rattle.wu_arguments.specs.Steps.{GivesScript}
use Rattle.wu_arguments.specs.declared.action.Action.{Action}
use Rattle.wu_arguments.specs.declared.line.Line.{Line}
use Rattle.wu_arguments.specs.declared.order.Export.{Export}
use Rattle.wu_arguments.specs.declared.order.ScriptFile.{ScriptFile}
use Rattle.wu_arguments.specs.declared.step.BadLine.{BadLine}
use Rattle.wu_arguments.specs.declared.step.LineFault.{LineFault}
use Rattle.wu_arguments.specs.declared.step.Script.{Script}
use Rattle.wu_cli.specs.Performing.{commands_of_action, Performs}
use Rattle.wu_cli.specs.Repeating.{commands_of_steps, RanAs, unrolled}
use Rattle.wu_cli.specs.Trying.{RanStep}
use Rattle.wu_cli.specs.Scripting.{PerformsScript, so_far}
use Rattle.wu_cli.specs.declared.trouble.Trouble.{Trouble}
use Rattle.wu_cli.specs.declared.trouble.Trouble.TheVariants as trouble
use Rattle.wu_cli.specs.declared.work.Work.{Work}
use Rattle.wu_cli.specs.declared.work.Work.TheVariants as work

-- ---- what is asked

abbrev pub work_of_line : Result Action Fault → Result Work Trouble
work_of_line (Ok action) = Ok (work.Line action)
work_of_line (Err fault) = Err (trouble.Fault fault)

abbrev pub work_of_script : Result Script BadLine → Result Work Trouble
work_of_script (Ok script) = Ok (work.Script script)
work_of_script (Err bad) = Err (trouble.BadLine bad)

module _ (gives : List ℕ → ℕ → Option (List ℕ) → Type 0) where
  -- What a line asks for, with the contents of its files, or its fault.
  abbrev pub AsksOfLine : Line → Result Work Trouble → Type 0
  AsksOfLine line result = (asked : Result Action Fault) × Prepares gives line.asking asked × (result ≡ work_of_line asked)

  -- The script's file cannot be read, its text is no script, or the call is out of memory.
  abbrev pub IsUnreadScript : ScriptFile → Fault → Type 0
  IsUnreadScript script fault =
      (fault ≡ Memory)
      ⊎ (((fault ≡ BadFile 0 Unreadable) × gives script.file longest_file None)
      ⊎ ((text : List ℕ) × gives script.file longest_file (Some text) × (script_of text ≡ Err fault)))

  -- The lines of the script in its file, or why there are none.
  abbrev pub ReadsScript : ScriptFile → Result (List ScriptLine) Fault → Type 0
  ReadsScript script (Ok lines) = (text : List ℕ) × gives script.file longest_file (Some text) × (script_of text ≡ Ok lines)
  ReadsScript script (Err fault) = IsUnreadScript script fault

  -- The script's file has these lines, and they ask for this; or the first line that cannot be run is reported.
  pub record AsksOfText (script : ScriptFile) (result : Result Work Trouble) : Type 0 where
    pub lines : List ScriptLine
    pub reads : ReadsScript script (Ok lines)
    pub parts : Result Script BadLine
    pub asks : GivesScript gives script.db lines parts
    pub asked : result ≡ work_of_script parts

  abbrev pub AsksOfScript : ScriptFile → Result Work Trouble → Type 0
  AsksOfScript script result = AsksOfText script result ⊎ ((fault : Fault) × IsUnreadScript script fault × (result ≡ Err (trouble.Fault fault)))

-- What is to be made of a copy of the project once the work over it is done: a line asks for nothing.
abbrev pub exports_of_work : Work → List Export
exports_of_work (work.Line action) = []
exports_of_work (work.Script script) = script.exports

-- ---- over a project

-- How a line or a script ended.
abbrev pub line_outcome : Option Fault → Result (Unit {0}) Trouble
line_outcome None = Ok tt
line_outcome (Some fault) = Err (trouble.Fault fault)

abbrev pub script_outcome : Option LineFault → Result (Unit {0}) Trouble
script_outcome None = Ok tt
script_outcome (Some end) = Err (trouble.LineFault end)

-- The line or the steps of the script are done, and what ended them is reported.
abbrev pub PerformsWork : {S W : Type 0} {store : Ghosts S} → (W → Option (List ℕ)) → Project S store → Project S store → W → W → Work → Result (Unit {0}) Trouble → Type 0
PerformsWork contents old new out_old out_new (work.Line action) done =
    (end : Option Fault) × Performs contents old new out_old out_new action end × (done ≡ line_outcome end)
PerformsWork contents old new out_old out_new (work.Script script) done =
    (end : Option LineFault) × PerformsScript contents old new out_old out_new script.steps end × (done ≡ script_outcome end)

-- The steps of a script ran as these; a line has none.
abbrev pub WorkRanAs : Work → List RanStep → Type 0
WorkRanAs (work.Line action) ran = ran ≡ []
WorkRanAs (work.Script script) ran = RanAs script.steps ran

-- The commands of the work over a world, in order, if its steps ran as these. A view has none, and a repeated pass has
-- one for each time that it is done.
abbrev pub commands_of_work : World → Work → List RanStep → List Command
commands_of_work world (work.Line action) ran = commands_of_action action
commands_of_work world (work.Script script) ran = commands_of_steps world (unrolled world ran)

-- So many commands were done, each with the machine's reply, and the tables represent the world after them. If the
-- session ended within the next command, a crash may also leave the world after that one. With success all were done.
pub record DrivesWork (world : World) (asked : Work) (done : Result (Unit {0}) Trouble) (new : State) : Type 0 where
  pub ran : List RanStep
  pub are : WorkRanAs asked ran
  pub count : ℕ
  pub answers : List Answer
  pub is_cut : Bool
  pub drives : Drives world (commands_of_work world asked ran) answers (so_far count) is_cut new
  pub whole : OnOk done (count ≡ length (commands_of_work world asked ran))

-- ---- over an open database

module _ {S W : Type 0} (g : Ghosts S) (contents : W → Option (List ℕ)) (conn again : Held S) (out_old out_new : W) (asked : Work) (done : Result (Unit {0}) Trouble) where
  -- The project is adopted, the work is done over it, and the session is released.
  pub record DoesAdopted : Type 0 where
    pub old : Project S g
    pub new : Project S g
    pub begins : BeginsSession g conn old
    pub does : PerformsWork contents old new out_old out_new asked done
    pub released : again ≡ connection_of new

  -- No project is adopted: that fault is reported, and nothing is done or written.
  pub record BeginsNothing : Type 0 where
    pub fault : Fault
    pub refused : RefusesAdoption (state g conn) (state g again) fault
    -- A connection in a transaction comes back as it was.
    pub busy : conn.in_transaction ≡ true → (again ≡ conn) × (fault ≡ NotAProject)
    pub told : done ≡ Err (trouble.Fault fault)
    pub unwritten : out_new ≡ out_old

  abbrev pub DoesOver : Type 0
  DoesOver = DoesAdopted ⊎ BeginsNothing

-- No project was adopted, for this fault, and tables that represented the world represent it still.
pub record RefusesWork (old new : State) (world : World) (done : Result (Unit {0}) Trouble) : Type 0 where
  pub fault : Fault
  pub told : done ≡ Err (trouble.Fault fault)
  pub why : IsAdoptionFault fault
  pub stands : GoesOn old world → GoesOn new world

-- From each world that a session may begin from, a prefix of the commands is done, or no project is adopted.
abbrev pub DrivesOver : {S : Type 0} (g : Ghosts S) → Held S → Held S → Work → Result (Unit {0}) Trouble → Type 0
DrivesOver g conn again asked done =
    HasCleanDisk (state g again) → (world : World) → IsProject world → BeginsFrom (state g conn) world
    → DrivesWork world asked done (state g again) ⊎ RefusesWork (state g conn) (state g again) world done
