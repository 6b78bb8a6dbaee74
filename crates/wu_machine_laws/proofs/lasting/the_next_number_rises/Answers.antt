use Rattle.wu_machine_laws.proofs.Records.{steps_record}
use Rattle.wu_machine_laws.proofs.lasting.the_next_number_rises.Goals as goal

pub returns : goal.returns
returns c world requests = (steps_record world requests).next
