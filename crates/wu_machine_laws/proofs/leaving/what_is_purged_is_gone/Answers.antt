use Rattle.wu_machine_laws.proofs.Going.{purged_is_gone}
use Rattle.wu_machine_laws.proofs.leaving.what_is_purged_is_gone.Goals as goal

pub returns : goal.returns
returns c = purged_is_gone
