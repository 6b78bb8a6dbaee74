use Rattle.wu_schema.proofs.Words.{HasCleanDisk, state, take, ◌+◌, ◌≡◌}
use Rattle.wu_store.specs.Changes.{PutsGrants}
use Rattle.wu_store.proofs.ChangeLemmas.{Works}
use Rattle.wu_store.proofs.changes.insert_grants.Given as goal

abbrev pub invariant-loop-grant : goal.invariant-loop-grant
invariant-loop-grant g l =
    (l.seq ≡ l.fn.place + l.grant-index)
    × Works g.S.Store l.initial.tx l.tx
    × (HasCleanDisk (state g.S.Store l.tx.conn.now) → PutsGrants l.fn.place (take l.grant-index l.grants) (state g.S.Store l.initial.tx.conn.now).now (state g.S.Store l.tx.conn.now).now)
