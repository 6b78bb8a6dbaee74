use Rattle.wu_rules_laws.proofs.Spent.{ready-changed, changed-ready}
use Rattle.wu_rules_laws.proofs.laws.deletes_where_it_changes.Goals as goal

pub returns : goal.returns
returns c w = (ready-changed w, changed-ready w)
