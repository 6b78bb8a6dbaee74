use Rattle.std.proofs.Common.{◌≡◌, true, false, get_or, sym, arith}
use Rattle.wu_rules.specs.Waking.{is_output_to_ready}
use Rattle.wu_rules.proofs.Lists.{any_placed-more, any_placed-found}
use Rattle.wu_rules.proofs.waking.has_output_to_ready.Goals as goal

pub returns-then-is_to_ready : goal.returns-then-is_to_ready
returns-then-is_to_ready c =
    let here : is_output_to_ready c.args.canonical c.is_all_finished-is_all_finished.result c.each.n (get_or c.as_slice-instance-items.result.now c.each.n c.instance-item.result) ≡ true = cc in
    let found = any_placed-found (is_output_to_ready c.args.canonical c.is_all_finished-is_all_finished.result) c.as_slice-instance-items.result.now c.each.n c.instance-item.result (omega arith) here in
    sym (rw (c.as_slice-instance-items.ensures.items, c.is_all_finished-is_all_finished.ensures) at found)

pub each-preserved : goal.each-preserved
each-preserved c =
    let here : is_output_to_ready c.args.canonical c.is_all_finished-is_all_finished.result c.each.n (get_or c.as_slice-instance-items.result.now c.each.n c.instance-item.result) ≡ false = cc in
    any_placed-more (is_output_to_ready c.args.canonical c.is_all_finished-is_all_finished.result) c.as_slice-instance-items.result.now c.each.n c.instance-item.result (omega arith) c.each.invariant here
