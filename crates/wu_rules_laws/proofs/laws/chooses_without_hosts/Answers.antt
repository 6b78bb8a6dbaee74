use Rattle.wu_rules_laws.proofs.Granting.{consensus-rehosted}
use Rattle.wu_rules_laws.proofs.laws.chooses_without_hosts.Goals as goal

pub returns : goal.returns
returns c = consensus-rehosted
