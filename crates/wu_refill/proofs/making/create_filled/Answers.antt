use Rattle.std.proofs.Common.{arith}
use Rattle.sqlite.specs.Held.{state}
use Rattle.sqlite.specs.State.{HasCleanDisk}
use Rattle.wu_refill.proofs.FilledLemmas.{crash_fresh, crash_then, filled_then}
use Rattle.wu_refill.proofs.making.create_filled.Goals as goal

pub returns-clause-done : goal.returns-clause-done
returns-clause-done g c clean =
    let old = state g.S.Store c.args.conn.now in
    let mid = state g.S.Store c.create.new.conn in
    let new = state g.S.Store c.refill.new.conn in
    let before : HasCleanDisk mid = omega (arith, clean, c.refill.ensures.crash.clean) in
    filled_then c.args.world old mid new (c.in_ok-create.ensures.transacts.done before) c.refill.result (c.refill.ensures.done clean)

pub returns-clause-crash : goal.returns-clause-crash
returns-clause-crash g c =
    crash_then c.args.world (state g.S.Store c.args.conn.now) (state g.S.Store c.create.new.conn) (state g.S.Store c.refill.new.conn)
    (λ clean. (c.in_ok-create.ensures.transacts.done clean).makes) c.create.ensures.transacts.crash c.refill.ensures.crash

pub returns-in_err-create-clause-crash : goal.returns-in_err-create-clause-crash
returns-in_err-create-clause-crash g c = crash_fresh c.args.world (state g.S.Store c.args.conn.now) (state g.S.Store c.create.new.conn) c.create.ensures.transacts.crash
