use Rattle.wu_rules_laws.proofs.Cancels.{cancels}
use Rattle.wu_rules_laws.proofs.laws.cancels_what_is_unsent.Goals as goal

pub returns : goal.returns
returns c = cancels
