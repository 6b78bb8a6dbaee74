use Rattle.wu_rules_laws.proofs.Choosing.{chooses}
use Rattle.wu_rules_laws.proofs.laws.chooses_only_by_quorum.Goals as goal

pub returns : goal.returns
returns c = chooses
