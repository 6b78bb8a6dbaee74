-- Laws of the machine.
use Rattle.std.specs.Prelude.{◌≡◌, ℕ, List, Ok}
use Rattle.wu_core.specs.World.{World}
use Rattle.wu_machine.specs.Machine.{reply, step, fold_steps, HasValues}
use Rattle.wu_machine.specs.Sound.{IsProject}
use Rattle.wu_machine.specs.Requests.{Request, AskBatch, AskSent, AskReported, AskClasses, Reply}

-- If a request was answered once, it gets the same answer after any other requests, and changes nothing then.
abbrev pub AnswersAgain : Request → Type 0
AnswersAgain request =
    (world : World) (answer : Reply) (between : List Request)
    → reply world request ≡ Ok answer
    → (reply (fold_steps (step world request) between) request ≡ Ok answer)
    × (step (fold_steps (step world request) between) request ≡ fold_steps (step world request) between)

-- An import acts once.
pub record ImportsActOnce : Type 0 where
  pub batch : (name template file : List ℕ) → AnswersAgain (AskBatch name template file)
  pub sent : (name file : List ℕ) → AnswersAgain (AskSent name file)
  pub reported : (name file : List ℕ) → AnswersAgain (AskReported name file)
  pub classes : (name file : List ℕ) → AnswersAgain (AskClasses name file)

-- A request makes a project of the present or an older version out of such a project.
abbrev pub KeepsProjects : Request → Type 0
KeepsProjects request = (world : World) → IsProject world → IsProject (step world request)

abbrev pub RequestsKeepProjects : Type 0
RequestsKeepProjects = (request : Request) → HasValues request → KeepsProjects request
