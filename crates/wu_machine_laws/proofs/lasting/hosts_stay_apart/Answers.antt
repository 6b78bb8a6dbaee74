use Rattle.wu_machine_laws.proofs.SoundSteps.{sound_steps}
use Rattle.wu_machine_laws.proofs.lasting.hosts_stay_apart.Goals as goal

pub returns : goal.returns
returns c world requests values sound = (sound_steps requests world values sound).1.apart
