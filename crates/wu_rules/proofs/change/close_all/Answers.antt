use Rattle.std.proofs.Common.{arith}
use Rattle.wu_rules.specs.Instances.{closed}
use Rattle.wu_rules.proofs.InPlace.{mapped_more}
use Rattle.wu_rules.proofs.change.close_all.Goals as goal

pub each-preserved : goal.each-preserved
each-preserved c = mapped_more closed _ _ _ _ _ (omega arith) c.each.invariant c.close.ensures
