use Rattle.wu_machine_laws.proofs.SoundSteps.{sound_steps}
use Rattle.wu_machine_laws.proofs.sound.lists_keep_sound.Goals as goal

pub returns : goal.returns
returns c world requests values sound = (sound_steps requests world values sound).0
