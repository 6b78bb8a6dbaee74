use Rattle.wu_schema.specs.Others.{Spares, SparesOthers}
use Rattle.wu_schema.specs.Queue.{MakesQueue, queue_table}
use Rattle.wu_store.specs.Changes.{FillsQueue, UpgradesQueue}
use Rattle.wu_schema.proofs.CallLemmas.{does_then}
use Rattle.wu_schema.proofs.OthersLemmas.{others_kept, others_then}
use Rattle.wu_store.proofs.changes.upgrade_queue.Goals as goal

pub returns-clause-upgrades : goal.returns-clause-upgrades
returns-clause-upgrades g c =
    does_then g.S.Store c.args.tx.now c.make_queue.new.tx c.fill_queue.new.tx c.fill_queue.result {First = MakesQueue} {Second = FillsQueue c.args.rows.now} {Both = UpgradesQueue c.args.from c.args.rows.now} (λ old mid new made fills world from stands same. fills world (made.stands world stands.refines) same made.queue) c.in_ok-make_queue.ensures.makes c.fill_queue.ensures.works.part c.fill_queue.ensures.fills

pub returns-clause-spares : goal.returns-clause-spares
returns-clause-spares g c =
    does_then g.S.Store c.args.tx.now c.make_queue.new.tx c.fill_queue.new.tx c.fill_queue.result {First = MakesQueue} {Second = Spares queue_table} {Both = SparesOthers} (λ old mid new made fills. others_then old mid new (others_kept old mid made.keeps) (fills ((made.queue.tree, made.queue.table), tt)).1) c.in_ok-make_queue.ensures.makes c.fill_queue.ensures.works.part c.fill_queue.ensures.spares
