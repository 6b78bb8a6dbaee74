use Rattle.wu_machine_laws.proofs.SoundSteps.{sound_step}
use Rattle.wu_machine_laws.proofs.sound.keeps_sound.Goals as goal

pub returns : goal.returns
returns c world request values sound = (sound_step world sound request values).0
