use Rattle.std.proofs.Common.{arith}
use Rattle.wu_rules.specs.Assimilation.{without_output}
use Rattle.wu_rules.proofs.InPlace.{mapped_more}
use Rattle.wu_rules.proofs.deleter.delete_outputs.Goals as goal

pub each-preserved : goal.each-preserved
each-preserved c = mapped_more without_output _ _ _ _ _ (omega arith) c.each.invariant c.delete_output.ensures
