use Rattle.wu_rules_laws.proofs.Judged.{finals_stay}
use Rattle.wu_rules_laws.proofs.laws.keeps_final_verdicts.Goals as goal

pub returns : goal.returns
returns c = finals_stay
