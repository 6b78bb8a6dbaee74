use Rattle.wu_rules_laws.proofs.Granting.{grants_right}
use Rattle.wu_rules_laws.proofs.laws.grants_to_the_valid.Goals as goal

pub returns : goal.returns
returns c = grants_right
