use Rattle.std.proofs.Common.{arith}
use Rattle.wu_rules.specs.Validation.{refused_where}
use Rattle.wu_rules.proofs.InPlace.{mapped_more}
use Rattle.wu_rules.proofs.validator.refuse_all.Goals as goal

pub each-preserved : goal.each-preserved
each-preserved c = mapped_more (refused_where c.args.is_undecided) _ _ _ _ _ (omega arith) c.each.invariant c.refuse.ensures
