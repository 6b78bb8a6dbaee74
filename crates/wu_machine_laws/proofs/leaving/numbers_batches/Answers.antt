use Rattle.wu_machine_laws.proofs.Numbering.{numbers_batches}
use Rattle.wu_machine_laws.proofs.leaving.numbers_batches.Goals as goal

pub returns : goal.returns
returns c = numbers_batches
