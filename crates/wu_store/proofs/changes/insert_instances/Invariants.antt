use Rattle.wu_schema.proofs.Words.{HasCleanDisk, Refines, World, state, ◌≡◌}
use Rattle.wu_store.specs.Changes.{LacksNumber, LeavesQueue, with_placed, without_instances}
use Rattle.wu_store.proofs.PlacedLemmas.{first_instances}
use Rattle.wu_schema.specs.Others.{SparesWith, tables_of_workunits}
use Rattle.wu_store.proofs.ChangeLemmas.{Works}
use Rattle.wu_store.proofs.changes.insert_instances.Given as goal

abbrev pub invariant-loop-instance : goal.invariant-loop-instance
invariant-loop-instance g l =
    (l.n ≡ l.instance-index)
    × Works g.S.Store l.initial.tx l.tx
    × (HasCleanDisk (state g.S.Store l.tx.conn.now) → SparesWith tables_of_workunits (state g.S.Store l.initial.tx.conn.now).now (state g.S.Store l.tx.conn.now).now
    × (((world : World) → LacksNumber l.workunit.number world.workunits → Refines (state g.S.Store l.initial.tx.conn.now).now (with_placed (without_instances l.workunit) world) → Refines (state g.S.Store l.tx.conn.now).now (with_placed (first_instances l.instance-index l.workunit) world))
    × LeavesQueue l.workunit (state g.S.Store l.initial.tx.conn.now).now (state g.S.Store l.tx.conn.now).now))
