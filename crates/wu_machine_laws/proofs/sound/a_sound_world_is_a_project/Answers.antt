use Rattle.wu_machine_laws.proofs.SoundLemmas.{is_project}
use Rattle.wu_machine_laws.proofs.sound.a_sound_world_is_a_project.Goals as goal

pub returns : goal.returns
returns c = is_project
