use Rattle.wu_rules_laws.proofs.Progress.{times_out}
use Rattle.wu_rules_laws.proofs.laws.times_out_what_is_late.Goals as goal

pub returns : goal.returns
returns c = times_out
