use Rattle.wu_schema.proofs.Words.{HasCleanDisk, arith, refl, state, Schema, [], subst, sym, ◌∷◌, rules}
use Rattle.wu_schema.proofs.CallLemmas.{ok_both, ok_on}
use Rattle.wu_store.proofs.SpareLemmas.{project_there}
use Rattle.wu_schema.proofs.OthersLemmas.{others_kept, others_then}
use Rattle.wu_schema.specs.Others.{AreThere}
use Rattle.wu_schema.specs.Made.{project_table}
use Rattle.wu_store.proofs.classes.upgrade_classes.Goals as goal

pub returns : goal.returns
returns g c = record {
  writes = search rules;
  makes = λ clean.
      let last : HasCleanDisk (state g.S.Store c.fill_classes.new.tx.conn.now) = omega (arith, clean, c.set_version.ensures.writes.part.survives.clean) in
      let first : HasCleanDisk (state g.S.Store c.make_classes.new.tx.conn.now) = omega (arith, last, c.in_ok-fill_classes.ensures.works.part.survives.clean) in
      let made = c.in_ok-make_classes.ensures.makes first in
      ok_both c.set_version.result _ _ _ (λ sets keeps world older s same.
      let (filled, tables, stays) = c.in_ok-fill_classes.ensures.fills last world older (made.stands world s) same made.classes in
      (sets world refl older filled tables, λ marked q. keeps world marked filled (stays marked (made.queue marked q)))) (c.set_version.ensures.makes clean) (c.set_version.ensures.keeps clean);
  spares = λ clean.
      let old = (state g.S.Store c.args.tx.now.conn.now).now in
      let mid = (state g.S.Store c.make_classes.new.tx.conn.now).now in
      let late = (state g.S.Store c.fill_classes.new.tx.conn.now).now in
      let new = (state g.S.Store c.set_version.new.tx.conn.now).now in
      let last : HasCleanDisk (state g.S.Store c.fill_classes.new.tx.conn.now) = omega (arith, clean, c.set_version.ensures.writes.part.survives.clean) in
      let first : HasCleanDisk (state g.S.Store c.make_classes.new.tx.conn.now) = omega (arith, last, c.in_ok-fill_classes.ensures.works.part.survives.clean) in
      let made = c.in_ok-make_classes.ensures.makes first in
      ok_on c.set_version.result _ _ (λ sets world s.
      let filled = c.in_ok-fill_classes.ensures.spares last ((made.classes.workunit_class, made.classes.workunits), tt) in
      let project = subst (λ (x : Schema). AreThere x (project_table ∷ [])) (sym filled.0) (project_there mid world (made.stands world s)) in
      others_then old mid new (others_kept old mid made.keeps) (others_then mid late new filled.1 (sets project).1)) (c.set_version.ensures.spares clean);
}
