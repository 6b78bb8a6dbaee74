use Rattle.wu_machine_laws.proofs.Answered.{does_as_answered}
use Rattle.wu_machine_laws.proofs.leaving.cancels_and_upgrades.Goals as goal

pub returns : goal.returns
returns c = does_as_answered
