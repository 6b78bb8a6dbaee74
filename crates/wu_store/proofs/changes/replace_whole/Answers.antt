use Rattle.wu_schema.proofs.Words.{HasCleanDisk, arith, state, rules}
use Rattle.wu_schema.proofs.CallLemmas.{does_then, ok_on}
use Rattle.wu_store.specs.Changes.{without_workunit}
use Rattle.wu_store.proofs.MarkedLemmas.{stands_replaced, stands_without}
use Rattle.wu_store.proofs.SpareLemmas.{of_workunit}
use Rattle.wu_schema.proofs.OthersLemmas.{spares_then}
use Rattle.wu_schema.specs.Others.{tables_of_workunits}
use Rattle.wu_store.proofs.changes.replace_whole.Goals as goal

pub returns : goal.returns
returns g c = record {
  writes = search rules;
  makes = λ clean.
      let w = c.args.workunit.now in
      let still : HasCleanDisk (state g.S.Store c.delete_workunit.new.tx.conn.now) = omega (arith, c.add.ensures.writes.part.survives.clean) in
      ok_on c.add.result _ _ (λ adds world queued stands there.
      let gone = stands_without _ _ world w.number stands (c.in_ok-delete_workunit.ensures.makes still) (c.in_ok-delete_workunit.ensures.keeps still) in
      stands_replaced _ _ world w stands.refines there (adds (without_workunit w.number world) queued gone)) (c.add.ensures.makes clean);
  spares =
      does_then g.S.Store c.args.tx.now c.delete_workunit.new.tx c.add.new.tx c.add.result (λ old mid new gone. spares_then tables_of_workunits old mid new (of_workunit old mid gone)) c.in_ok-delete_workunit.ensures.spares c.add.ensures.writes.part c.add.ensures.spares;
}
