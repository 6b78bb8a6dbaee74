use Rattle.std.proofs.Common.{arith}
use Rattle.wu_rules.specs.Validation.{doubted_or_closed}
use Rattle.wu_rules.proofs.InPlace.{mapped_more}
use Rattle.wu_rules.proofs.validator.doubt_or_close_all.Goals as goal

pub each-preserved : goal.each-preserved
each-preserved c = mapped_more doubted_or_closed _ _ _ _ _ (omega arith) c.each.invariant c.doubt_or_close.ensures
