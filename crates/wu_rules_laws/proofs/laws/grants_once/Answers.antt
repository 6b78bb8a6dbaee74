use Rattle.wu_rules_laws.proofs.Granting.{grants_increasing}
use Rattle.wu_rules_laws.proofs.laws.grants_once.Goals as goal

pub returns : goal.returns
returns c = grants_increasing
