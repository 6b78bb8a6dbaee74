use Rattle.wu_rules_laws.proofs.Verdicts.{rules_keep_verdicts}
use Rattle.wu_rules_laws.proofs.consistent.keeps_all_verdicts.Goals as goal

pub returns : goal.returns
returns c = rules_keep_verdicts
