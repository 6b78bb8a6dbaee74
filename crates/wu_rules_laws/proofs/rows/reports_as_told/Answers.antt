use Rattle.wu_rules_laws.proofs.Told.{reports}
use Rattle.wu_rules_laws.proofs.rows.reports_as_told.Goals as goal

pub returns : goal.returns
returns c = reports
