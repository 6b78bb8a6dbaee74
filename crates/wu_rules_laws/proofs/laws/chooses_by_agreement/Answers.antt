use Rattle.wu_rules_laws.proofs.Granting.{chosen_exactly}
use Rattle.wu_rules_laws.proofs.laws.chooses_by_agreement.Goals as goal

pub returns : goal.returns
returns c = chosen_exactly
