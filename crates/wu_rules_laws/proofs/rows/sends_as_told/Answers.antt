use Rattle.wu_rules_laws.proofs.Told.{sends}
use Rattle.wu_rules_laws.proofs.rows.sends_as_told.Goals as goal

pub returns : goal.returns
returns c = sends
