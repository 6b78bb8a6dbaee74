use Rattle.wu_rules_laws.proofs.Alike.{idle_is_one_class}
use Rattle.wu_rules_laws.proofs.consistent.idle_is_one_class.Goals as goal

pub returns : goal.returns
returns c = idle_is_one_class
