use Rattle.wu_schema.proofs.Words.{Error, HasCleanDisk, Ok, arith, state, subst, rules}
use Rattle.wu_core.specs.declared.marks.Marks.{Marks}
use Rattle.wu_schema.proofs.CallLemmas.{does_then, ok_both}
use Rattle.wu_schema.specs.Queue.{HasQueue}
use Rattle.wu_store.specs.Changes.{with_placed}
use Rattle.wu_store.specs.Queues.{with_marks}
use Rattle.wu_store.specs.StandsFor.{marked}
use Rattle.wu_store.proofs.MarkedLemmas.{marked_placed}
use Rattle.wu_store.proofs.SpareLemmas.{of_queue}
use Rattle.wu_schema.proofs.OthersLemmas.{spares_then}
use Rattle.wu_schema.specs.Others.{tables_of_workunits}
use Rattle.wu_store.proofs.changes.add.Goals as goal

pub returns : goal.returns
returns g c = record {
  writes = search rules;
  makes = λ clean.
      let new = (state g.S.Store c.insert_marks.new.tx.conn.now).now in
      let last : HasCleanDisk (state g.S.Store c.insert_instances.new.tx.conn.now) = omega (arith, clean, c.insert_marks.ensures.writes.part.survives.clean) in
      let first : HasCleanDisk (state g.S.Store c.insert_workunit.new.tx.conn.now) = omega (arith, last, c.in_ok-insert_instances.ensures.works.part.survives.clean) in
      let w = c.args.workunit.now in
      ok_both c.insert_marks.result _ _ _ (λ puts stays world known stands.
      let q = stands.queue (omega (arith, known)) in
      let free = c.in_ok-insert_workunit.ensures.free first world stands.refines in
      let placed = c.in_ok-insert_workunit.ensures.puts first in
      let alone = placed.stands world known stands.refines in
      let beside = placed.queue world (marked world) known stands.refines q in
      let whole = c.in_ok-insert_instances.ensures.adds last world free alone in
      let still = c.in_ok-insert_instances.ensures.queue last world (marked world) free alone beside in
      record {
        refines = stays (with_placed w world) (marked world) whole still;
        queue = λ _. subst (HasQueue new) (marked_placed w world)
            (subst (λ (m : Marks). HasQueue new (with_marks w.number m (marked world))) c.marks_of.ensures (puts (with_placed w world) (marked world) whole still));
      }) (c.insert_marks.ensures.makes clean) (c.insert_marks.ensures.keeps clean);
  spares = λ clean.
      let front = does_then {U = Unit {0}} {E = Error} g.S.Store c.args.tx.now c.insert_workunit.new.tx c.insert_instances.new.tx (Ok tt) (spares_then tables_of_workunits) c.in_ok-insert_workunit.ensures.spares c.in_ok-insert_instances.ensures.works.part c.in_ok-insert_instances.ensures.spares in
      does_then g.S.Store c.args.tx.now c.insert_instances.new.tx c.insert_marks.new.tx c.insert_marks.result (λ old mid new before marks. spares_then tables_of_workunits old mid new before (of_queue mid new marks)) front c.insert_marks.ensures.writes.part c.insert_marks.ensures.spares clean;
}
