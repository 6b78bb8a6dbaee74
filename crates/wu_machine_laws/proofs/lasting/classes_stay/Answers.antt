use Rattle.wu_machine_laws.proofs.Classing.{classes_stay}
use Rattle.wu_machine_laws.proofs.lasting.classes_stay.Goals as goal

pub returns : goal.returns
returns c = classes_stay
