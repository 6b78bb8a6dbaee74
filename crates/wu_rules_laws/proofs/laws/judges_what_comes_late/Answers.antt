use Rattle.wu_rules_laws.proofs.Progress.{judges_late}
use Rattle.wu_rules_laws.proofs.laws.judges_what_comes_late.Goals as goal

pub returns : goal.returns
returns c = judges_late
