use Rattle.wu_schema.proofs.Words.{Refines, subst, rules}
use Rattle.wu_schema.proofs.CallLemmas.{ok_both, ok_on}
use Rattle.wu_store.proofs.PlacedLemmas.{is_there}
use Rattle.wu_store.proofs.ReplaceLemmas.{row_replaced, row_same}
use Rattle.wu_store.proofs.SpareLemmas.{of_workunit}
use Rattle.wu_schema.proofs.OthersLemmas.{spares_none}
use Rattle.wu_schema.specs.Others.{tables_of_workunits}
use Rattle.wu_store.proofs.changes.put_row.Goals as goal

pub returns-then-is_same_row : goal.returns-then-is_same_row
returns-then-is_same_row g c = record {
  works = search rules;
  puts = λ clean world s found.
      (subst (Refines _) (row_same c.args.workunit.now _ world s c.args.was.now found (c.is_same_row.ensures.0 c.if-is_same_row.true)) s, λ marked q. q);
  idle = search rules;
  spares = λ clean. spares_none tables_of_workunits _;
}

pub returns : goal.returns
returns g c = record {
  works = search rules;
  puts = λ clean.
      let w = c.args.workunit.now in
      ok_both c.set_workunit.result _ _ _ (λ sets leaves world s found.
      let there = is_there w.number c.args.was.now world.workunits found in
      (subst (Refines _) (row_replaced w _ world s c.args.was.now found) (sets world s there), λ marked q. leaves world marked s there q)) (c.set_workunit.ensures.makes clean) (c.set_workunit.ensures.keeps clean);
  idle = search rules;
  spares = λ clean. ok_on c.set_workunit.result _ _ (of_workunit _ _) (c.set_workunit.ensures.spares clean);
}
