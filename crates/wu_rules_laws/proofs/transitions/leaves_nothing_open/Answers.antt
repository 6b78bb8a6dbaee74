use Rattle.wu_rules_laws.proofs.Ending.{through}
use Rattle.wu_rules_laws.proofs.transitions.leaves_nothing_open.Goals as goal

pub returns : goal.returns
returns c = through
