use Rattle.wu_machine_laws.proofs.Staying.{stays_by_nothing}
use Rattle.wu_machine_laws.proofs.leaving.stays_where_nothing_is_made.Goals as goal

pub returns : goal.returns
returns c = stays_by_nothing
