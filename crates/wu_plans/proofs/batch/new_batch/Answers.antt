use Rattle.std.proofs.Common.{rules, ◌≡◌, ◌++◌, ◌∷◌, [], ◌∙◌, ap, refl, subst}
use Rattle.wu_machine.specs.declared.command.Answer.TheVariants as reply
use Rattle.wu_machine.specs.Imports.{Given}
use Rattle.wu_plans.specs.Planning.{first_of, KeepsImport}
use Rattle.wu_machine.specs.Commands.{batch_of}
use Rattle.wu_store.specs.declared.changes.Change.TheVariants.{Keep}
use Rattle.wu_plans.proofs.PlanLemmas.{new_batch_is}
use Rattle.wu_plans.proofs.batch.new_batch.Goals as goal
use Rattle.wu_schema.proofs.ReadingLemmas.{ok_is}

pub returns : goal.returns
returns c = record {
  ok =
      let long = c.len-count.ensures in
      let first_is = c.first_of-first.ensures ∙ ap (first_of c.args.next) long in
      let grown : c.push.new.self.items ≡ c.in_ok-changes.changes.items ++ Keep c.in_ok-import.import ∷ [] = search rules in
      let source_is = c.batch_source-source.ensures in
      new_batch_is (batch_of c.args.batch.now) c.args.next c.first_of-first.result c.args.params c.args.jobs c.in_ok-imported.field-0 c.in_ok-import.import c.in_ok-verdicts.verdicts c.push.new.self
      refl first_is (subst (λ (given : Given). KeepsImport given c.first_of-first.result c.in_ok-verdicts.verdicts c.in_ok-import.import) source_is (rw c.as_slice.ensures at c.in_ok-import.ensures.ok))
      (rw long at (ok_is _ _ c.in_ok-verdicts.ensures))
      (ok_is _ _ c.in_ok-imported.ensures ∙ ap (λ (given : Given). reply.Imported given.kind given.name c.first_of-first.result c.in_ok-verdicts.verdicts) source_is)
      (grown ∙ ap (λ cs. cs ++ Keep c.in_ok-import.import ∷ []) c.in_ok-changes.ensures.ok);
  fault = tt;
}
