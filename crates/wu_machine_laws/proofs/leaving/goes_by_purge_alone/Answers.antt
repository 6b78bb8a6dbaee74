use Rattle.wu_machine_laws.proofs.Going.{goes_by_purge}
use Rattle.wu_machine_laws.proofs.leaving.goes_by_purge_alone.Goals as goal

pub returns : goal.returns
returns c = goes_by_purge
