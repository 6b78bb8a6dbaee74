use Rattle.wu_schema.proofs.Words.{HasCleanDisk, state, take}
use Rattle.wu_store.specs.Changes.{Credits}
use Rattle.wu_store.proofs.ChangeLemmas.{Works}
use Rattle.wu_store.proofs.changes.add_sums.Given as goal

abbrev pub invariant-loop-sum : goal.invariant-loop-sum
invariant-loop-sum g l =
    Works g.S.Store l.initial.tx l.tx
    × (HasCleanDisk (state g.S.Store l.tx.conn.now) → Credits (take l.sum-index l.sums) (state g.S.Store l.initial.tx.conn.now).now (state g.S.Store l.tx.conn.now).now)
