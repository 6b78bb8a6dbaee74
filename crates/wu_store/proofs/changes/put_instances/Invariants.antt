use Rattle.wu_schema.proofs.Words.{HasCleanDisk, Refines, World, Workunit, Some, state, ◌≡◌}
use Rattle.wu_store.specs.Answers.{numbered}
use Rattle.wu_store.specs.Changes.{StandsBeside, with_replaced}
use Rattle.wu_store.proofs.ReplaceLemmas.{listing, mixed}
use Rattle.wu_schema.specs.Others.{SparesWith, tables_of_workunits}
use Rattle.wu_store.proofs.ChangeLemmas.{Works}
use Rattle.wu_store.proofs.changes.put_instances.Given as goal

abbrev pub invariant-loop-instance : goal.invariant-loop-instance
invariant-loop-instance g l =
    (l.n ≡ l.instance-index)
    × Works g.S.Store l.initial.tx l.tx
    × (l.was ≡ l.workunit.instances → l.tx ≡ l.initial.tx)
    × (HasCleanDisk (state g.S.Store l.tx.conn.now) → SparesWith tables_of_workunits (state g.S.Store l.initial.tx.conn.now).now (state g.S.Store l.tx.conn.now).now
    × ((world : World) (v : Workunit) → numbered l.workunit.number world ≡ Some v → Refines (state g.S.Store l.initial.tx.conn.now).now (with_replaced (listing l.workunit l.was) world)
    → StandsBeside (with_replaced (listing l.workunit (mixed l.instance-index l.workunit.instances l.was)) world) (state g.S.Store l.initial.tx.conn.now).now (state g.S.Store l.tx.conn.now).now))
