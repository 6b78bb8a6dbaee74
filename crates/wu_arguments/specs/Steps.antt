-- The steps of a script: what its lines ask of a project, with the contents of their files.
use Rattle.std.specs.List.{AllZip}
use Rattle.std.specs.Prelude.{◌≡◌, ◌⊎◌, ℕ, List, [], ◌∷◌, ◌++◌, Option, Result, Ok, Err}
use Rattle.wu_core.specs.declared.fault.Fault.{Fault}
use Rattle.wu_core.specs.declared.fault.Fault.TheVariants.{Memory}
use Rattle.wu_feed.specs.declared.script.ScriptLine.{ScriptLine}
use Rattle.wu_arguments.specs.Contents.{Prepares}
use Rattle.wu_arguments.specs.Scripts.{export_asked, ReadsScriptLine}
use Rattle.wu_arguments.specs.declared.action.Action.{Action}
use Rattle.wu_arguments.specs.declared.action.Action.TheVariants.{Refused}
use Rattle.wu_arguments.specs.declared.line.Line.{Line}
use Rattle.wu_arguments.specs.declared.order.Export.{Export}
use Rattle.wu_arguments.specs.declared.refusal.Refusal.{Refusal}
use Rattle.wu_arguments.specs.declared.refusal.Refusal.TheVariants as refusal
use Rattle.wu_arguments.specs.declared.refusal.Outsider.TheVariants as outsider
use Rattle.wu_arguments.specs.declared.script.Mode.{Mode}
use Rattle.wu_arguments.specs.declared.script.Mode.TheVariants.{Tried}
use Rattle.wu_arguments.specs.declared.step.BadLine.{BadLine}
use Rattle.wu_arguments.specs.declared.step.Script.{Script}
use Rattle.wu_arguments.specs.declared.step.Step.{Step}

-- What a line asks for that is done in this way, where its values and files give this. A fault of a tried line waits
-- until the line is done, but for out of memory.
abbrev pub asked_by : Mode → Result Action Fault → Result Action Fault
asked_by mode (Ok action) = Ok action
asked_by mode (Err Memory) = Err Memory
asked_by Tried (Err fault) = Ok (Refused fault)
asked_by mode (Err fault) = Err fault

module _ (gives : List ℕ → ℕ → Option (List ℕ) → Type 0) (db : List ℕ) where
  -- The line is refused: for its words, or for a value or a file of what its words ask for.
  abbrev pub IsRefusedFor : ScriptLine → Refusal → Type 0
  IsRefusedFor line why =
      (mode : Mode)
      × (ReadsScriptLine db line.words mode (Err why)
      ⊎ ((asked : Line) × (given : Result Action Fault) × (fault : Fault) × ReadsScriptLine db line.words mode (Ok asked) × Prepares gives asked.asking given
      × (asked_by mode given ≡ Err fault) × (why ≡ refusal.Fault fault)))

  -- The step of a line, with its number; or why the line cannot be run.
  abbrev pub GivesStep : ScriptLine → Result Step Refusal → Type 0
  GivesStep line (Ok step) =
      (step.number ≡ line.number)
      × ((asked : Line) × (given : Result Action Fault) × ReadsScriptLine db line.words step.mode (Ok asked) × Prepares gives asked.asking given
      × (asked_by step.mode given ≡ Ok step.action))
  GivesStep line (Err why) = IsRefusedFor line why

  -- The line asks for this step.
  abbrev pub AsksStep : ScriptLine → Step → Type 0
  AsksStep line step = GivesStep line (Ok step)

  -- The line asks for this export, and so for no command.
  abbrev pub AsksExport : ScriptLine → Export → Type 0
  AsksExport line export = IsRefusedFor line (refusal.Outsider (outsider.Export export))

-- ---- a script, with the exports at its end

-- What a line asks for is added to what the lines before it ask for: a step, if they ask for no export, or an export.
-- Or it is out of memory, or refused: a step after an export, or what is neither.
abbrev pub Takes : List Step → List Export → Result Step Refusal → List Step → List Export → Result (Unit {0}) Refusal → Type 0
Takes steps exports (Ok step) more_steps more_exports (Ok done) = (exports ≡ []) × (more_steps ≡ steps ++ step ∷ []) × (more_exports ≡ exports)
Takes steps exports (Ok step) more_steps more_exports (Err why) = (why ≡ refusal.Fault Memory) ⊎ ((why ≡ refusal.AfterExport) × (exports ≡ [] → ⊥))
Takes steps exports (Err asked) more_steps more_exports (Ok done) =
    (export : Export) × (export_asked asked ≡ Ok export) × (more_steps ≡ steps) × (more_exports ≡ exports ++ export ∷ [])
Takes steps exports (Err asked) more_steps more_exports (Err why) =
    ((why ≡ refusal.Fault Memory) × ((export : Export) × (export_asked asked ≡ Ok export))) ⊎ (export_asked asked ≡ Err why)

module _ (gives : List ℕ → ℕ → Option (List ℕ) → Type 0) (db : List ℕ) where
  -- The lines ask for the steps, and the last of them for the exports, one each and in order.
  pub record AskFor (lines : List ScriptLine) (steps : List Step) (exports : List Export) : Type 0 where
    pub front : List ScriptLine
    pub behind : List ScriptLine
    pub order : lines ≡ front ++ behind
    pub each_step : AllZip (AsksStep gives db) front steps
    pub each_export : AllZip (AsksExport gives db) behind exports

  -- The line can be run and is out of memory; or it cannot be run for this reason, which is that it asks for no export
  -- if a line before it does.
  abbrev pub IsBadAfter : List Export → ScriptLine → Refusal → Type 0
  IsBadAfter exports line why =
      ((why ≡ refusal.Fault Memory) × (((step : Step) × GivesStep gives db line (Ok step)) ⊎ ((export : Export) × AsksExport gives db line export)))
      ⊎ ((IsRefusedFor gives db line why × (export_asked why ≡ Err why))
      ⊎ ((why ≡ refusal.AfterExport) × (exports ≡ [] → ⊥) × ((step : Step) × GivesStep gives db line (Ok step))))

  -- This line is refused, and each line before it can be run.
  pub record EndsAt (lines : List ScriptLine) (bad : BadLine) : Type 0 where
    pub front : List ScriptLine
    pub line : ScriptLine
    pub behind : List ScriptLine
    pub order : lines ≡ front ++ line ∷ behind
    pub steps : List Step
    pub exports : List Export
    pub before : AskFor front steps exports
    pub number_is : bad.number ≡ line.number
    pub is_bad : IsBadAfter exports line bad.why

  -- What the lines ask for, or the first that cannot be run.
  abbrev pub GivesScript : List ScriptLine → Result Script BadLine → Type 0
  GivesScript lines (Ok script) = AskFor lines script.steps script.exports
  GivesScript lines (Err bad) = EndsAt lines bad
