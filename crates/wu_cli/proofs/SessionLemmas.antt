-- What is done for the lines of a session.
use Rattle.std.proofs.Common.{◌≡◌, ℕ, List, [], ◌∷◌, ◌++◌, None, Option, Result, refl, subst}
use Rattle.sqlite_trees.specs.declared.store.Store.{Ghosts}
use Rattle.wu_passes.specs.declared.project.Project.{Project}
use Rattle.wu_arguments.specs.declared.step.LineFault.{LineFault}
use Rattle.wu_arguments.specs.declared.step.Step.{Step}
use Rattle.wu_arguments.specs.declared.refusal.Refusal.{Refusal}
use Rattle.wu_cli.specs.Exports.{SaysOfExport}
use Rattle.wu_cli.specs.Sessions.{AnswersEach, AnswersHeard, DoesSteps}

-- These are the steps, and this is how they ended.
pub does_as : {S W : Type 0} {store : Ghosts S} (contents : W → Option (List ℕ)) (old new : Project S store) (out_old out_new : W) (steps others : List Step) (end other : Option LineFault) → steps ≡ others → end ≡ other
    → DoesSteps contents old new out_old out_new steps end → DoesSteps contents old new out_old out_new others other
does_as contents old new out_old out_new steps others end other same ends does =
    subst (λ its. DoesSteps contents old new out_old out_new its other) same (subst (λ its. DoesSteps contents old new out_old out_new steps its) ends does)

module _ {S W : Type 0} {store : Ghosts S} (contents : W → Option (List ℕ)) (gives : List ℕ → ℕ → Option (List ℕ) → Type 0) (exports : SaysOfExport) (db : List ℕ) where
  -- Nothing was heard yet.
  pub answers_none : (project : Project S store) (out : W) → AnswersEach contents gives exports db project project out out []
  unfolding AnswersEach
  answers_none project out = (refl, refl)

  -- One more was heard and answered.
  pub answers_more : (old mid new : Project S store) (out_old out_mid out_new : W) (heard : List (Result (List ℕ) Refusal)) (one : Result (List ℕ) Refusal)
      → AnswersEach contents gives exports db old mid out_old out_mid heard → AnswersHeard contents gives exports db mid new out_mid out_new one None
      → AnswersEach contents gives exports db old new out_old out_new (heard ++ one ∷ [])
  unfolding AnswersEach
  answers_more old mid new out_old out_mid out_new [] one each does =
      (new, out_new, subst (λ o. AnswersHeard contents gives exports db o new out_old out_new one None) each.0 (subst (λ o. AnswersHeard contents gives exports db mid new o out_new one None) each.1 does), (refl, refl))
  answers_more old mid new out_old out_mid out_new (first ∷ heard) one each does =
      (each.0, each.1, each.2, answers_more each.0 mid new each.1 out_mid out_new heard one each.3 does)
