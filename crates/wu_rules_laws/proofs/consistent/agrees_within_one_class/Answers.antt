use Rattle.wu_rules_laws.proofs.Alike.{agrees_within}
use Rattle.wu_rules_laws.proofs.consistent.agrees_within_one_class.Goals as goal

pub returns : goal.returns
returns c = agrees_within
