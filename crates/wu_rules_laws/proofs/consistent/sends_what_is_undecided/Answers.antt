use Rattle.wu_rules_laws.proofs.Unsent.{sends_undecided}
use Rattle.wu_rules_laws.proofs.consistent.sends_what_is_undecided.Goals as goal

pub returns : goal.returns
returns c = sends_undecided
