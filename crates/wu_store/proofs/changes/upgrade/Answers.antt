use Rattle.wu_store.specs.Changes.{Upgrades, UpgradesQueue}
use Rattle.wu_store.specs.Classes.{UpgradesClasses}
use Rattle.wu_schema.proofs.Words.{HasCleanDisk, arith, state, subst, rules}
use Rattle.wu_schema.proofs.CallLemmas.{does_then, ok_on}
use Rattle.wu_schema.specs.Queue.{HasQueue}
use Rattle.wu_schema.proofs.OthersLemmas.{others_then}
use Rattle.wu_store.proofs.changes.upgrade.Goals as goal

pub returns : goal.returns
returns g c = record {
  writes = search rules;
  makes =
      does_then g.S.Store c.args.tx.now c.upgrade_queue.new.tx c.upgrade_classes.new.tx c.upgrade_classes.result {First = UpgradesQueue c.args.from c.args.rows.now} {Second = UpgradesClasses c.args.rows.now} {Both = Upgrades c.args.from c.args.rows.now} (λ old mid new queued classes world from older stands same.
      let (refines, q) = queued world from stands same in
      let (made, keeps) = classes world older refines same in
      record { refines = made; queue = λ _. subst (HasQueue new) same (keeps c.args.rows.now q) }) c.in_ok-upgrade_queue.ensures.upgrades c.upgrade_classes.ensures.writes.part c.upgrade_classes.ensures.makes;
  spares = λ clean.
      let first : HasCleanDisk (state g.S.Store c.upgrade_queue.new.tx.conn.now) = omega (arith, clean, c.upgrade_classes.ensures.writes.part.survives.clean) in
      ok_on c.upgrade_classes.result _ _ (λ classes world from stands same. others_then _ _ _ (c.in_ok-upgrade_queue.ensures.spares first) (classes world (c.in_ok-upgrade_queue.ensures.upgrades first world from stands same).0)) (c.upgrade_classes.ensures.spares clean);
}
