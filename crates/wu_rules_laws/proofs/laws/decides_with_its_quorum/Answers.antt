use Rattle.wu_rules_laws.proofs.Progress.{decides_quorum}
use Rattle.wu_rules_laws.proofs.laws.decides_with_its_quorum.Goals as goal

pub returns : goal.returns
returns c = decides_quorum
