use Rattle.wu_sound_laws.proofs.Consequences.{shown}
use Rattle.wu_sound_laws.proofs.laws.can_all_be_shown.Goals as goal

pub returns : goal.returns
returns c world view sound present = shown world sound present view
