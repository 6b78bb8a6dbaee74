use Rattle.wu_rules_laws.proofs.Kept.{keeps_formed}
use Rattle.wu_rules_laws.proofs.laws.keeps_workunits_formed.Goals as goal

pub returns : goal.returns
returns c = keeps_formed
