use Rattle.wu_machine_laws.proofs.PassLaws.{keeps_records}
use Rattle.wu_machine_laws.proofs.laws.records_more.Goals as goal

pub returns : goal.returns
returns c = keeps_records
