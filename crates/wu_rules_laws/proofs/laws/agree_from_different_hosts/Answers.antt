use Rattle.wu_rules_laws.proofs.Hosted.{agree_apart}
use Rattle.wu_rules_laws.proofs.laws.agree_from_different_hosts.Goals as goal

pub returns : goal.returns
returns c = agree_apart
