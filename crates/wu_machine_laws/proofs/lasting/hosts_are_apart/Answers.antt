use Rattle.wu_machine_laws.proofs.LastingLaws.{hosts_are_apart}
use Rattle.wu_machine_laws.proofs.lasting.hosts_are_apart.Goals as goal

pub returns : goal.returns
returns c = hosts_are_apart
