use Rattle.wu_machine_laws.proofs.Older.{upgrades_first}
use Rattle.wu_machine_laws.proofs.leaving.older_projects_upgrade_first.Goals as goal

pub returns : goal.returns
returns c = upgrades_first
