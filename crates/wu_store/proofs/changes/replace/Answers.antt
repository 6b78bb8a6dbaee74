use Rattle.wu_schema.proofs.Words.{Error, HasCleanDisk, Ok, arith, length, state, subst, ◌≤◌, rules}
use Rattle.wu_schema.proofs.CallLemmas.{does_then, ok_on}
use Rattle.wu_store.specs.Changes.{PutsInstances}
use Rattle.wu_store.specs.StandsFor.{marked}
use Rattle.wu_store.proofs.PlacedLemmas.{is_there}
use Rattle.wu_schema.proofs.OthersLemmas.{spares_then}
use Rattle.wu_schema.specs.Others.{tables_of_workunits}
use Rattle.wu_store.proofs.changes.replace.Goals as goal

pub returns-then-len : goal.returns-then-len
returns-then-len g c = record {
  works = search rules;
  puts = λ clean.
      ok_on c.replace_whole.result _ _ (λ any world queued stands found. any world queued stands (is_there c.args.workunit.now.number c.args.was.now world.workunits found)) (c.replace_whole.ensures.makes clean);
  idle = search rules;
  spares = search rules;
}

pub returns : goal.returns
returns g c = record {
  works = search rules;
  puts = λ clean.
      let next = (state g.S.Store c.put_class.new.tx.conn.now).now in
      let late = (state g.S.Store c.put_instances.new.tx.conn.now).now in
      let was = c.args.was.now in
      let w = c.args.workunit.now in
      let last : HasCleanDisk (state g.S.Store c.put_instances.new.tx.conn.now) = omega (arith, clean, c.put_marks.ensures.works.part.survives.clean) in
      let middle : HasCleanDisk (state g.S.Store c.put_class.new.tx.conn.now) = omega (arith, last, c.in_ok-put_instances.ensures.works.part.survives.clean) in
      let first : HasCleanDisk (state g.S.Store c.put_row.new.tx.conn.now) = omega (arith, middle, c.in_ok-put_class.ensures.works.part.survives.clean) in
      let few : length was.instances ≤ length w.instances = omega (arith, c.if-len.false, c.len.ensures.len, c.len-2.ensures.len) in
      let instances : PutsInstances w was.instances next late = subst (λ is. PutsInstances w is next late) c.as_slice.ensures.items (c.in_ok-put_instances.ensures.puts last) in
      ok_on c.put_marks.result _ _ (λ marks world known stands found.
      let row = c.in_ok-put_row.ensures.puts first world stands.refines found in
      let classed = c.in_ok-put_class.ensures.puts middle world known row.0 in
      let all = instances world was found few classed.0 in
      let q = stands.queue (omega (arith, known)) in
      let done = marks _ world stands.refines found all.0 (all.1 (marked world) (classed.1 (marked world) (row.1 (marked world) q))) in
      record { refines = done.0; queue = λ _. done.1 }) (c.put_marks.ensures.puts clean);
  idle = search rules;
  spares = λ clean.
      let s = g.S.Store in
      let start = c.args.tx.now in
      let then = spares_then tables_of_workunits in
      let both = does_then {U = Unit {0}} {E = Error} s start c.put_row.new.tx c.put_class.new.tx (Ok tt) then c.in_ok-put_row.ensures.spares c.in_ok-put_class.ensures.works.part c.in_ok-put_class.ensures.spares in
      let front = does_then {U = Unit {0}} {E = Error} s start c.put_class.new.tx c.put_instances.new.tx (Ok tt) then both c.in_ok-put_instances.ensures.works.part c.in_ok-put_instances.ensures.spares in
      does_then s start c.put_instances.new.tx c.put_marks.new.tx c.put_marks.result then front c.put_marks.ensures.works.part c.put_marks.ensures.spares clean;
}
