use Rattle.wu_machine_laws.proofs.Older.{stays_present}
use Rattle.wu_machine_laws.proofs.leaving.projects_stay_present.Goals as goal

pub returns : goal.returns
returns c = stays_present
