use Rattle.wu_machine_laws.proofs.Classing.{leaves_exactly}
use Rattle.wu_machine_laws.proofs.lasting.one_class_stays_by_step.Goals as goal

pub returns : goal.returns
returns c = leaves_exactly
