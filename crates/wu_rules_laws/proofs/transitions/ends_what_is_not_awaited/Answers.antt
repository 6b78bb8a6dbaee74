use Rattle.wu_rules_laws.proofs.Ending.{becomes_at}
use Rattle.wu_rules_laws.proofs.transitions.ends_what_is_not_awaited.Goals as goal

pub returns : goal.returns
returns c = becomes_at
