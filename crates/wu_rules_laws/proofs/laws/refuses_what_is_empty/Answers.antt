use Rattle.wu_rules_laws.proofs.Refused.{refuses_empty}
use Rattle.wu_rules_laws.proofs.laws.refuses_what_is_empty.Goals as goal

pub returns : goal.returns
returns c = refuses_empty
