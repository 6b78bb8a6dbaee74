-- What a view writes of the answer to one question of a project.
use Rattle.std.proofs.Common.{◌≡◌, ℕ, List, Option, Result, Ok, Err, ◌∙◌, rules, subst}
use Rattle.std.specs.Prelude.{IsOkUnless}
use Rattle.std.specs.Result.{IsErr, IsErrAnd}
use Rattle.sqlite.specs.Effect.{Database}
use Rattle.sqlite.specs.State.{HasCleanDisk}
use Rattle.sqlite_trees.specs.declared.store.Store.{Ghosts}
use Rattle.wu_core.specs.World.{World}
use Rattle.wu_core.specs.declared.fault.Fault.{Fault}
use Rattle.wu_core.specs.declared.fault.Fault.TheVariants.{NotAProject, Output}
use Rattle.wu_store.proofs.AskLemmas.{handed_on}
use Rattle.wu_store.specs.StandsFor.{KnowsClasses, StandsFor}
use Rattle.wu_passes.proofs.StandingLemmas.{refused_open}
use Rattle.wu_passes.specs.Projects.{IsPresentSession, IsSessionOpen, Looks, state_of}
use Rattle.wu_passes.specs.Standing.{ShowsWorld}
use Rattle.wu_passes.specs.declared.project.Project.{Project}
use Rattle.wu_report.proofs.ViewLemmas.{never_output, other_fault, outputs_cut}
use Rattle.wu_report.proofs.WalkedLemmas.{present_answer, present_done, present_output}
use Rattle.wu_report.proofs.WritingLemmas.{AppendsFront-nothing, Writes-failed}
use Rattle.wu_report.specs.Views.{CutsOutput, WritesView}
use Rattle.wu_report.specs.Writing.{Prints, WritesTo}

module _ {S W T : Type 0} {g : Ghosts S} (contents : W → Option (List ℕ)) (old new : Project S g) {Over : Database → World → Type 0} {Finds : Result T Fault → World → Type 0} {Can : World → Type 0} (over : (db : Database) (world : World) → KnowsClasses world → StandsFor db world → Over db world) (text_of : World → List ℕ) where
  -- a question that is refused: nothing is written
  pub looked_refused : {U : Type 0} (out : W) (fault : Fault) (r : Result U Fault) → IsErr r → IsErrAnd r (λ other. other ≡ fault) → Looks old new (Err fault) Over Finds Can → WritesView contents old new out out text_of Can r
  looked_refused out fault r is_err same it = record {
    early = search rules;
    reads = search rules;
    opens = search rules;
    text = λ going clean world knows shows. Writes-failed _ _ _ r is_err (AppendsFront-nothing _ _);
    cut = λ going clean world knows shows.
        other_fault _ _ _ r fault same (λ is. never_output fault (it.fault going (present_output old new fault going it.early is)) is);
    fault = search rules;
    unrefused = λ going clean unlimited world knows can shows.
        handed_on r fault same (λ refused.
        let still = refused_open (state_of new) fault refused (it.opens going (present_answer old new fault going it.early refused) clean) in
        it.unrefused going clean world (over _ world knows (shows ((it.asks.back clean).was_open still)).0) can unlimited refused);
    broke = search rules;
  }

  module _ (answer : T) (it : Looks old new (Ok answer) Over Finds Can) where
    -- the answer is that of the world
    found : (text : List ℕ) → ((world : World) → Finds (Ok answer) world → text ≡ text_of world) → IsSessionOpen old → HasCleanDisk (state_of new) → (world : World) → KnowsClasses world → ShowsWorld (state_of old) world → text ≡ text_of world
    found text is going clean world knows shows =
        is world (it.found clean world (over _ world knows (shows ((it.asks.back clean).was_open (it.opens going (present_done old new answer going it.early) clean))).0))

    -- its text is written
    pub looked_written : {U : Type 0} (out_old out_new : W) (text : List ℕ) (r : Result U Fault) → ((world : World) → Finds (Ok answer) world → text ≡ text_of world) → Prints contents out_old out_new text r → WritesView contents old new out_old out_new text_of Can r
    looked_written out_old out_new text r is printed = record {
      early = search rules;
      reads = search rules;
      opens = search rules;
      text = λ going clean world knows shows. subst (λ t. WritesTo contents out_old out_new t r) (found text is going clean world knows shows) printed.bytes;
      cut = λ going clean world knows shows.
          subst (λ t. CutsOutput (contents out_old) (contents out_new) t r) (found text is going clean world knows shows) (outputs_cut _ _ _ r printed.cut);
      fault = search (rules, printed.fault);
      unrefused = search rules;
      broke = search rules;
    }
