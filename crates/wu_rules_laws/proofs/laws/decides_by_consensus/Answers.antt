use Rattle.wu_rules_laws.proofs.Deciding.{decides_by}
use Rattle.wu_rules_laws.proofs.laws.decides_by_consensus.Goals as goal

pub returns : goal.returns
returns c = decides_by
