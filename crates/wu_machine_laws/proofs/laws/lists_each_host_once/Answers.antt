use Rattle.wu_machine_laws.proofs.PassLaws.{lists_hosts}
use Rattle.wu_machine_laws.proofs.laws.lists_each_host_once.Goals as goal

pub returns : goal.returns
returns c = lists_hosts
