use Rattle.wu_machine.proofs.PassKeeps.{keeps_by}
use Rattle.wu_machine.proofs.laws.requests_keep_projects.Goals as goal

pub returns : goal.returns
returns c = keeps_by
