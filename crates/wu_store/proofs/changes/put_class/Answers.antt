use Rattle.wu_schema.proofs.Words.{Refines, subst, rules}
use Rattle.wu_schema.proofs.CallLemmas.{ok_on}
use Rattle.wu_store.specs.Changes.{keeping_instances, with_replaced}
use Rattle.wu_store.proofs.ReplaceLemmas.{class_kept, class_replaced}
use Rattle.wu_store.proofs.SpareLemmas.{of_class}
use Rattle.wu_schema.proofs.OthersLemmas.{spares_none}
use Rattle.wu_schema.specs.Others.{tables_of_workunits}
use Rattle.wu_store.proofs.changes.put_class.Goals as goal

pub returns : goal.returns
returns g c = record {
  works = search rules;
  puts = λ clean.
      let was = c.args.was.now in
      let w = c.args.workunit.now in
      ok_on c.set_class.result _ _ (λ sets world known s. (
        subst (Refines _) (class_replaced w world was) (sets.stands (with_replaced (keeping_instances was w) world) known s),
        λ marked q. sets.queue (with_replaced (keeping_instances was w) world) marked known s q,
      )) (c.set_class.ensures.makes clean);
  idle = search rules;
  spares = λ clean. ok_on c.set_class.result _ _ (of_class _ _) (c.set_class.ensures.spares clean);
}

pub returns-then-was-workunit : goal.returns-then-was-workunit
returns-then-was-workunit g c = record {
  works = search rules;
  puts = λ clean world known s.
      (subst (Refines _) (class_kept c.args.workunit.now world c.args.was.now c.if-was-workunit.true) s, λ marked q. q);
  idle = search rules;
  spares = λ clean. spares_none tables_of_workunits _;
}
