use Rattle.wu_machine_laws.proofs.PassLaws.{is_taken}
use Rattle.wu_machine_laws.proofs.laws.takes_the_first.Goals as goal

pub returns : goal.returns
returns c = is_taken
