use Rattle.wu_sound_laws.proofs.Consequences.{begins_sound}
use Rattle.wu_sound_laws.proofs.laws.beginnings_stay_sound.Goals as goal

pub returns : goal.returns
returns c world commands count moments sound = begins_sound world commands count moments sound
