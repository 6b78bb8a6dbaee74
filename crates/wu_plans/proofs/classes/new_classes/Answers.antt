use Rattle.std.proofs.Common.{rules, ◌≡◌, ◌++◌, ◌∷◌, [], ◌∙◌, ℕ, List, ap, subst, sym}
use Rattle.wu_machine.specs.Batches.{all_applied}
use Rattle.wu_machine.specs.Commands.{reply_of_answer}
use Rattle.wu_machine.specs.Imports.{first_answer}
use Rattle.wu_plans.specs.Planning.{given_of, KeepsImport}
use Rattle.wu_store.specs.declared.changes.Change.TheVariants.{Keep}
use Rattle.wu_plans.proofs.classes.new_classes.Goals as goal
use Rattle.wu_schema.proofs.ReadingLemmas.{ok_is}

pub returns : goal.returns
returns c = record {
  ok =
      let given = given_of c.args.source.now in
      let keeps : KeepsImport given 0 c.in_ok-verdicts.verdicts c.in_ok-import.import = rw c.as_slice.ensures at c.in_ok-import.ensures.ok in
      let all : c.in_ok-verdicts.verdicts ≡ all_applied c.args.classes = rw c.len.ensures at (ok_is _ _ c.in_ok-verdicts.ensures) in
      let grown : c.push.new.self.items ≡ c.in_ok-changes.changes.items ++ Keep c.in_ok-import.import ∷ [] = search rules in
      record {
        kept = c.in_ok-import.import;
        keeps = subst (λ (verdicts : List ℕ). KeepsImport given 0 verdicts c.in_ok-import.import) all keeps;
        reply = ap (λ a. reply_of_answer a) (ok_is _ _ c.in_ok-imported.ensures) ∙ sym (ap (λ i. first_answer i) keeps);
        changes = grown ∙ ap (λ cs. cs ++ Keep c.in_ok-import.import ∷ []) c.in_ok-changes.ensures.ok;
      };
  fault = tt;
}
