use Rattle.wu_rules_laws.proofs.Spent.{ready_assimilate-changed, changed-ready_assimilate}
use Rattle.wu_rules_laws.proofs.laws.assimilates_what_is_ready.Goals as goal

pub returns : goal.returns
returns c w now = (ready_assimilate-changed w now, changed-ready_assimilate w now)
