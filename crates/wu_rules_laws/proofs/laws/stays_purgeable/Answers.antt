use Rattle.wu_rules_laws.proofs.Spent.{purgeable-later}
use Rattle.wu_rules_laws.proofs.laws.stays_purgeable.Goals as goal

pub returns : goal.returns
returns c = purgeable-later
