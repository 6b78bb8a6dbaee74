use Rattle.wu_machine_laws.proofs.SoundLemmas.{empty_sound}
use Rattle.wu_machine_laws.proofs.sound.a_fresh_project_is_sound.Goals as goal

pub returns : goal.returns
returns c = empty_sound
