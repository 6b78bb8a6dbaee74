use Rattle.wu_rules_laws.proofs.GivingUp.{gives_up}
use Rattle.wu_rules_laws.proofs.transitions.gives_up_what_gets_no_further.Goals as goal

pub returns : goal.returns
returns c = gives_up
