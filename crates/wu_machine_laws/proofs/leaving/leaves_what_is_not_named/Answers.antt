use Rattle.wu_machine_laws.proofs.LeavingLaws.{leaves_others}
use Rattle.wu_machine_laws.proofs.leaving.leaves_what_is_not_named.Goals as goal

pub returns : goal.returns
returns c = leaves_others
