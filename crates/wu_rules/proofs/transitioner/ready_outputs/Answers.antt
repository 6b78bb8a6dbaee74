use Rattle.std.proofs.Common.{arith}
use Rattle.wu_rules.specs.Transition.{with_output_readied}
use Rattle.wu_rules.proofs.Lists.{placed_more}
use Rattle.wu_rules.proofs.transitioner.ready_outputs.Goals as goal

pub each-preserved : goal.each-preserved
each-preserved c = placed_more (with_output_readied c.args.canonical c.is_all_finished-is_all_finished.result) _ _ _ c.instance-item.result _ (omega arith) c.each.invariant (rw c.may_output_go-may_go.ensures at c.ready_output.ensures)
