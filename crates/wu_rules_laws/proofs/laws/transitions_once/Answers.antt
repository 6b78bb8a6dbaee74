use Rattle.wu_rules_laws.proofs.Awake.{transitioned-once}
use Rattle.wu_rules_laws.proofs.laws.transitions_once.Goals as goal

pub returns : goal.returns
returns c = transitioned-once
