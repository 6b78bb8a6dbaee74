use Rattle.wu_rules_laws.proofs.Alike.{rules_keep_one_class}
use Rattle.wu_rules_laws.proofs.consistent.keeps_one_class.Goals as goal

pub returns : goal.returns
returns c = rules_keep_one_class
