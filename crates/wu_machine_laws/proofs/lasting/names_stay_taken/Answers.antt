use Rattle.wu_machine_laws.proofs.SoundSteps.{sound_steps}
use Rattle.wu_machine_laws.proofs.lasting.names_stay_taken.Goals as goal

pub returns : goal.returns
returns c world requests values sound = (sound_steps requests world values sound).1.names
