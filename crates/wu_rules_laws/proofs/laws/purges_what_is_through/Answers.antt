use Rattle.wu_rules_laws.proofs.Spent.{purgeable-assimilated, purgeable-emptied}
use Rattle.wu_rules_laws.proofs.laws.purges_what_is_through.Goals as goal

pub returns : goal.returns
returns c w now age e = (purgeable-assimilated w now age e, purgeable-emptied w now age e)
