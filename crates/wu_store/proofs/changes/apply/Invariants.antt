use Rattle.std.proofs.Common.{take}
use Rattle.sqlite.specs.State.{HasCleanDisk}
use Rattle.sqlite.specs.Held.{state}
use Rattle.wu_store.specs.Changing.{MakesWorlds}
use Rattle.wu_store.proofs.ChangeLemmas.{Works}
use Rattle.wu_store.proofs.changes.apply.Given as goal

abbrev pub invariant-loop-change : goal.invariant-loop-change
invariant-loop-change g l =
    Works g.S.Store l.initial.tx l.tx
    × (HasCleanDisk (state g.S.Store l.tx.conn.now) → MakesWorlds (take l.change-index l.changes) (state g.S.Store l.initial.tx.conn.now).now (state g.S.Store l.tx.conn.now).now)
