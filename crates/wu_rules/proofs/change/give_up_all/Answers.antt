use Rattle.std.proofs.Common.{arith}
use Rattle.wu_rules.specs.Instances.{given_up}
use Rattle.wu_rules.proofs.InPlace.{mapped_more}
use Rattle.wu_rules.proofs.change.give_up_all.Goals as goal

pub each-preserved : goal.each-preserved
each-preserved c = mapped_more given_up _ _ _ _ _ (omega arith) c.each.invariant c.give_up.ensures
