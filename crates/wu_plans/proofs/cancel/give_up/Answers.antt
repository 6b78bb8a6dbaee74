use Rattle.std.proofs.Common.{rules, ◌≡◌, ◌∙◌, [], ◌∷◌, ap}
use Rattle.wu_core.specs.declared.workunit.Workunit.{Workunit}
use Rattle.wu_machine.specs.declared.command.Answer.TheVariants as answer
use Rattle.wu_store.specs.declared.changes.Change.TheVariants.{Replace}
use Rattle.wu_plans.proofs.CancelLemmas.{same_name}
use Rattle.wu_plans.proofs.cancel.give_up.Goals as goal

pub returns-clause-plan : goal.returns-clause-plan
returns-clause-plan c =
    let image = c.in_ok-cancel.ensures.image in
    let pushed : c.push.new.self.items ≡ Replace c.in_ok-was.was' c.cancel.new.workunit ∷ [] = search rules in record {
      undecided = search rules;
      answer = ap answer.Cancelled (c.in_ok-name.ensures ∙ ap (λ (v : Workunit). v.name) image ∙ same_name c.args.workunit);
      changes = pushed ∙ (λ i. Replace (c.in_ok-was.ensures.ok i) (image i) ∷ []);
    }
