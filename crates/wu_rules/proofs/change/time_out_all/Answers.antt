use Rattle.std.proofs.Common.{arith}
use Rattle.wu_rules.specs.Instances.{timed_out}
use Rattle.wu_rules.proofs.InPlace.{mapped_more}
use Rattle.wu_rules.proofs.change.time_out_all.Goals as goal

pub each-preserved : goal.each-preserved
each-preserved c = mapped_more (timed_out c.args.now) _ _ _ _ _ (omega arith) c.each.invariant c.time_out.ensures
