-- A session: lines that come one after another, what is done for each, and what goes out.
use Rattle.std.specs.Prelude.{◌≡◌, ◌⊎◌, ℕ, Bool, true, List, [], ◌∷◌, ◌++◌, codes, if◌then◌else◌, is_some, map, slice_get, unwrap_or, Option, Some, None, Result, Ok, Err}
use Rattle.std.specs.Fmt.{decimal}
use Rattle.std.specs.Io.KnownBytes.{IsAtEnd}
use Rattle.sqlite.specs.Held.{Held, state}
use Rattle.sqlite.specs.State.{HasCleanDisk}
use Rattle.sqlite.specs.Store.{Ghosts as StoreGhosts}
use Rattle.sqlite_trees.specs.declared.store.Store.{Ghosts}
use Rattle.wu_core.specs.World.{World}
use Rattle.wu_core.specs.declared.fault.Fault.{Fault}
use Rattle.wu_core.specs.declared.fault.Fault.TheVariants.{Memory, Output}
use Rattle.wu_feed.specs.Scripts.{script_of}
use Rattle.wu_feed.specs.declared.script.ScriptLine.{ScriptLine}
use Rattle.wu_drive.specs.Driving.{AnswerAll}
use Rattle.wu_machine.specs.Commands.{request_of}
use Rattle.wu_machine.specs.Machine.{fold_steps, present_version}
use Rattle.wu_machine.specs.declared.command.Answer.{Answer}
use Rattle.wu_machine.specs.declared.command.Command.{Command}
use Rattle.wu_passes.specs.declared.project.Project.{Project}
use Rattle.wu_passes.specs.Adopting.{RefusesAdoption}
use Rattle.wu_passes.specs.Projects.{connection_of, has_ended, is_new_project, IsOver, IsSessionOpen, older_version, state_of, BeginsSession}
use Rattle.wu_report.specs.Texts.{line_end}
use Rattle.wu_report.specs.Writing.{WritesTo}
use Rattle.wu_arguments.specs.Statuses.{fault_status, refusal_status}
use Rattle.wu_arguments.specs.Steps.{GivesScript}
use Rattle.wu_arguments.specs.declared.refusal.Refusal.{Refusal}
use Rattle.wu_arguments.specs.declared.refusal.Refusal.TheVariants as refusal
use Rattle.wu_arguments.specs.declared.step.BadLine.{BadLine}
use Rattle.wu_arguments.specs.declared.step.LineFault.{LineFault}
use Rattle.wu_arguments.specs.declared.step.Script.{Script}
use Rattle.wu_arguments.specs.declared.step.Step.{Step}
use Rattle.wu_cli.specs.Exports.{ExportsEach, SaysOfExport}
use Rattle.wu_cli.specs.Hearing.{Hears, IsUnread}
use Rattle.wu_cli.specs.Answering.{end_text, is_cut, status_of_done}
use Rattle.wu_cli.specs.Printing.{PrintsSteps}
use Rattle.wu_cli.specs.Scripting.{PerformsScript}
use Rattle.wu_cli.specs.Telling.{DrivesSteps, LengthensBySteps}
use Rattle.wu_cli.specs.declared.line_trouble.LineTrouble.{LineTrouble}
use Rattle.wu_cli.specs.declared.line_trouble.LineTrouble.TheVariants as line
use Rattle.wu_cli.specs.declared.trouble.Trouble.{Trouble}
use Rattle.wu_cli.specs.declared.trouble.Trouble.TheVariants as trouble

-- ---- one line

module _ (gives : List ℕ → ℕ → Option (List ℕ) → Type 0) (db : List ℕ) where
  -- what the script asks for that the text is by itself, or why it cannot be run
  abbrev pub ScriptOfText : List ℕ → Result Script Refusal → Type 0
  ScriptOfText text (Ok script) = (lines : List ScriptLine) × (script_of text ≡ Ok lines) × GivesScript gives db lines (Ok script)
  ScriptOfText text (Err why) =
      ((fault : Fault) × ((fault ≡ Memory) ⊎ (script_of text ≡ Err fault)) × (why ≡ refusal.Fault fault))
      ⊎ ((lines : List ScriptLine) × (bad : BadLine) × (script_of text ≡ Ok lines) × GivesScript gives db lines (Err bad) × (why ≡ bad.why))

-- Whether a script asks for anything: it has a step or an export.
abbrev pub asks : Script → Bool
asks script = if is_some (slice_get script.steps 0) then true else is_some (slice_get script.exports 0)

-- How a line ended whose exports ended so: whether it has a command, or why one is not made or not reported.
abbrev pub done_of_exports : Script → Result (Unit {0}) Trouble → Result Bool LineTrouble
done_of_exports script (Ok told) = Ok (asks script)
done_of_exports script (Err (trouble.Fault fault)) = Err (line.Refused (refusal.Fault fault))
done_of_exports script (Err told) = Err (line.Export told)

module _ {S W : Type 0} {store : Ghosts S} (contents : W → Option (List ℕ)) where
  -- all that is known of the steps of a script
  pub record DoesSteps (old new : Project S store) (out_old out_new : W) (steps : List Step) (end : Option LineFault) : Type 0 where
    pub does : PerformsScript contents old new out_old out_new steps end
    pub drives : DrivesSteps contents old new out_old out_new steps end
    pub lives : LengthensBySteps contents old new out_old out_new steps end
    pub prints : PrintsSteps contents old new out_old out_new steps end

module _ {W : Type 0} (contents : W → Option (List ℕ)) (exports : SaysOfExport) (db : List ℕ) where
  -- after steps without a fault the exports are made of the database of the session, and reported; a fault ends the
  -- line before them
  abbrev pub ExportsThen : Script → Option LineFault → W → W → Result Bool LineTrouble → Type 0
  ExportsThen script None out_mid out_new done =
      (told : Result (Unit {0}) Trouble) × ExportsEach contents exports db script.exports out_mid out_new told × (done ≡ done_of_exports script told)
  ExportsThen script (Some end) out_mid out_new done = (done ≡ Err (line.Refused (refusal.Fault end.fault))) × (out_new ≡ out_mid)

module _ {S W : Type 0} {store : Ghosts S} (contents : W → Option (List ℕ)) (exports : SaysOfExport) (db : List ℕ) where
  -- the steps of a line are done up to the first fault, and then its exports are made
  abbrev pub DoesScript : Project S store → Project S store → W → W → Script → Result Bool LineTrouble → Type 0
  DoesScript old new out_old out_new script done =
      (end : Option LineFault) × (out_mid : W) × DoesSteps contents old new out_old out_mid script.steps end × ExportsThen contents exports db script end out_mid out_new done

module _ {S W : Type 0} {store : Ghosts S} (contents : W → Option (List ℕ)) (gives : List ℕ → ℕ → Option (List ℕ) → Type 0) (exports : SaysOfExport) (db : List ℕ) where
  -- what a text asks for is done; or it cannot be run, and nothing is done
  abbrev pub DoesAsked : Project S store → Project S store → W → W → Result Script Refusal → Result Bool LineTrouble → Type 0
  DoesAsked old new out_old out_new (Ok script) done = DoesScript contents exports db old new out_old out_new script done
  DoesAsked old new out_old out_new (Err why) done = (done ≡ Err (line.Refused why)) × (new ≡ old) × (out_new ≡ out_old)

  abbrev pub DoesText : Project S store → Project S store → W → W → List ℕ → Result Bool LineTrouble → Type 0
  DoesText old new out_old out_new text done =
      (asked : Result Script Refusal) × ScriptOfText gives db text asked × DoesAsked old new out_old out_new asked done

  -- so for a line that was heard; one that was not is not done
  abbrev pub DoesHeard : Project S store → Project S store → W → W → Result (List ℕ) Refusal → Result Bool LineTrouble → Type 0
  DoesHeard old new out_old out_new (Ok text) done = DoesText old new out_old out_new text done
  DoesHeard old new out_old out_new (Err why) done = (done ≡ Err (line.Refused why)) × (new ≡ old) × (out_new ≡ out_old)

-- ---- line by line

-- The status with which a session ends after a line, or `None` if it goes on: where an output fails, or the project's
-- session has ended.
abbrev pub ends_with : Result (Unit {0}) Fault → Bool → Result Bool LineTrouble → Option ℕ
ends_with (Err fault) ended done = Some (fault_status Output)
ends_with (Ok told) ended done = if is_cut done then Some (fault_status Output) else if ended then Some (status_of_done done) else None

-- Commands were accepted, each with the machine's reply, and the session goes on over the world after them: a crash
-- leaves nothing else.
pub record Accepts {S : Type 0} {store : Ghosts S} (world : World) (new : Project S store) : Type 0 where
  pub commands : List Command
  pub answers : List Answer
  pub answered : AnswerAll world commands answers
  pub over : IsOver new (fold_steps world (map request_of commands))

-- On a clean disk a session accepts commands over each world over which it goes on.
abbrev pub AcceptsOver : {S : Type 0} {store : Ghosts S} → Project S store → Project S store → Type 0
AcceptsOver old new = IsSessionOpen old → HasCleanDisk (state_of new) → (world : World) → IsOver old world → Accepts world new

module _ {S W : Type 0} {store : Ghosts S} (contents : W → Option (List ℕ)) (gives : List ℕ → ℕ → Option (List ℕ) → Type 0) (exports : SaysOfExport) (db : List ℕ) where
  -- What was heard is done or refused, and then the line that ends its answer goes out, or a prefix of it if the output
  -- fails. The session goes on, or ends with a status.
  pub record AnswersHeard (old new : Project S store) (out_old out_new : W) (heard : Result (List ℕ) Refusal) (ends : Option ℕ) : Type 0 where
    pub done : Result Bool LineTrouble
    pub out_done : W
    pub does : DoesHeard contents gives exports db old new out_old out_done heard done
    pub told : Result (Unit {0}) Fault
    pub wrote : WritesTo contents out_done out_new (end_text done) told
    pub next : ends ≡ ends_with told (has_ended new) done

  -- Each that was heard is answered, over what the one before it left, and the session goes on.
  unfoldable pub AnswersEach : Project S store → Project S store → W → W → List (Result (List ℕ) Refusal) → Type 0
  AnswersEach old new out_old out_new [] = (new ≡ old) × (out_new ≡ out_old)
  AnswersEach old new out_old out_new (heard ∷ more) =
      (mid : Project S store) × (out_mid : W) × AnswersHeard old mid out_old out_mid heard None × AnswersEach mid new out_mid out_new more

  -- The last that is heard is answered, and ends the session with this status: the next line; or why the input could not
  -- be read further.
  pub record EndsSession (old new : Project S store) (out_old out_new : W) (in_old in_new : Option (List ℕ)) (status : ℕ) : Type 0 where
    pub last : Result (List ℕ) Refusal
    pub ends : Option ℕ
    pub answered : AnswersHeard old new out_old out_new last ends
    pub heard : (Hears in_old in_new (last ∷ []) × (ends ≡ Some status))
        ⊎ ((why : Refusal) × IsUnread why × (last ≡ Err why) × (status ≡ unwrap_or ends (refusal_status why)))

  -- The input is at its end, and so the session ends with status 0.
  pub record EndsInput (old new : Project S store) (out_old out_new : W) (in_old in_new : Option (List ℕ)) (status : ℕ) : Type 0 where
    pub status_is : status ≡ 0
    pub same : new ≡ old
    pub unwritten : out_new ≡ out_old
    pub at_end : IsAtEnd in_old
    pub nothing : Hears in_old in_new []

  -- The lines of the input are answered one after another, up to its end or to one that ends the session.
  pub record RunsSession (old new : Project S store) (out_old out_new : W) (in_old in_new : Option (List ℕ)) (status : ℕ) : Type 0 where
    pub heard : List (Result (List ℕ) Refusal)
    pub mid : Project S store
    pub out_mid : W
    pub in_mid : Option (List ℕ)
    pub each : AnswersEach old mid out_old out_mid heard
    -- None is left out, and none comes twice.
    pub hears : Hears in_old in_mid heard
    -- What they accepted is kept, whatever a crash does then.
    pub accepts : AcceptsOver old mid
    pub end : EndsInput mid new out_mid out_new in_mid in_new status ⊎ EndsSession mid new out_mid out_new in_mid in_new status

-- ---- over an open database

-- What the first line of a session adds for a project that its adoption made.
abbrev pub new_word : Bool → List ℕ
new_word is_new = if is_new then codes " new" else []

-- The line with which a session begins: it tells the schema version of the project's tables, and whether it is new.
abbrev pub ready_line : Option ℕ → Bool → List ℕ
ready_line older is_new = codes "= ready version=" ++ decimal (unwrap_or older present_version) ++ new_word is_new ++ line_end

module _ {S W : Type 0} {store : Ghosts S} (contents : W → Option (List ℕ)) (gives : List ℕ → ℕ → Option (List ℕ) → Type 0) (exports : SaysOfExport) (db : List ℕ) where
  -- The session ends at once, and no line is read.
  pub record EndsUnread (old new : Project S store) (out_old out_new : W) (in_old in_new : Option (List ℕ)) (status : ℕ) : Type 0 where
    pub status_is : status ≡ fault_status Output
    pub same : new ≡ old
    pub unwritten : out_new ≡ out_old
    pub unread : in_new ≡ in_old

  -- If the first line went out, the lines of the input are answered; else the session ends at once.
  abbrev pub ServesIf : Result (Unit {0}) Fault → Project S store → Project S store → W → W → Option (List ℕ) → Option (List ℕ) → ℕ → Type 0
  ServesIf (Ok told) old new out_old out_new in_old in_new status = RunsSession contents gives exports db old new out_old out_new in_old in_new status
  ServesIf (Err fault) old new out_old out_new in_old in_new status = EndsUnread old new out_old out_new in_old in_new status

  -- The first line goes out, or a prefix of it, and then the lines of the input are answered.
  pub record ServesProject (old new : Project S store) (out_old out_new : W) (in_old in_new : Option (List ℕ)) (status : ℕ) : Type 0 where
    pub told : Result (Unit {0}) Fault
    pub out_ready : W
    pub wrote : WritesTo contents out_old out_ready (ready_line (older_version old) (is_new_project old)) told
    pub serves : ServesIf told old new out_ready out_new in_old in_new status

module _ {S W : Type 0} (g : StoreGhosts S) (contents : W → Option (List ℕ)) (gives : List ℕ → ℕ → Option (List ℕ) → Type 0) (exports : SaysOfExport) (db : List ℕ) (conn again : Held S) (out_old out_new : W) (in_old in_new : Option (List ℕ)) where
  -- The project is adopted, the lines of the input are answered over it, and the session is released.
  pub record ServesAdopted (status : ℕ) : Type 0 where
    pub old : Project S g
    pub new : Project S g
    pub begins : BeginsSession g conn old
    pub serves : ServesProject contents gives exports db old new out_old out_new in_old in_new status
    pub released : again ≡ connection_of new

  -- No project is adopted: that fault is reported, and nothing is done, read or written.
  pub record ServesNothing (told : Trouble) : Type 0 where
    pub fault : Fault
    pub refused : RefusesAdoption (state g conn) (state g again) fault
    pub told_is : told ≡ trouble.Fault fault
    pub unwritten : out_new ≡ out_old
    pub unread : in_new ≡ in_old

  -- How a session over an open database ended: with a status, or with why there was none.
  abbrev pub ServesOver : Result ℕ Trouble → Type 0
  ServesOver (Ok status) = ServesAdopted status
  ServesOver (Err told) = ServesNothing told
