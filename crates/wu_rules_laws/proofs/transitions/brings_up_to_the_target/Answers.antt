use Rattle.wu_rules_laws.proofs.Making.{brings_up}
use Rattle.wu_rules_laws.proofs.transitions.brings_up_to_the_target.Goals as goal

pub returns : goal.returns
returns c = brings_up
