use Rattle.std.proofs.Common.{arith}
use Rattle.wu_rules.specs.Validation.{doubted}
use Rattle.wu_rules.proofs.InPlace.{mapped_more}
use Rattle.wu_rules.proofs.validator.doubt_all.Goals as goal

pub each-preserved : goal.each-preserved
each-preserved c = mapped_more doubted _ _ _ _ _ (omega arith) c.each.invariant c.doubt.ensures
