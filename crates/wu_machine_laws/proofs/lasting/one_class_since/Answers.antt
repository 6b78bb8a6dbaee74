use Rattle.wu_machine_laws.proofs.Classing.{one_class_since}
use Rattle.wu_machine_laws.proofs.lasting.one_class_since.Goals as goal

pub returns : goal.returns
returns c = one_class_since
