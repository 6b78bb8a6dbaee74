use Rattle.wu_machine_laws.proofs.Classing.{idle_worlds}
use Rattle.wu_machine_laws.proofs.lasting.idle_worlds_are_one_class.Goals as goal

pub returns : goal.returns
returns c = idle_worlds
