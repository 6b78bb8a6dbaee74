use Rattle.wu_schema.proofs.Words.{HasCleanDisk, Refines, World, [], state, take, ◌≡◌}
use Rattle.wu_schema.specs.Queue.{HasQueue, queue_table}
use Rattle.wu_store.specs.StandsFor.{marked}
use Rattle.wu_schema.specs.Others.{Spares}
use Rattle.wu_store.proofs.ChangeLemmas.{Works}
use Rattle.wu_store.proofs.changes.fill_queue.Given as goal

abbrev pub invariant-loop-row : goal.invariant-loop-row
invariant-loop-row g l =
    Works g.S.Store l.initial.tx l.tx
    × (HasCleanDisk (state g.S.Store l.tx.conn.now) → Spares queue_table (state g.S.Store l.initial.tx.conn.now).now (state g.S.Store l.tx.conn.now).now
    × ((world : World) → Refines (state g.S.Store l.initial.tx.conn.now).now world → l.rows ≡ marked world → HasQueue (state g.S.Store l.initial.tx.conn.now).now []
    → Refines (state g.S.Store l.tx.conn.now).now world × HasQueue (state g.S.Store l.tx.conn.now).now (take l.row-index l.rows)))
