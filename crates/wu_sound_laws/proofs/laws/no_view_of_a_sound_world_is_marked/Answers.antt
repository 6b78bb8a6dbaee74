use Rattle.wu_sound_laws.proofs.Consequences.{unmarked}
use Rattle.wu_sound_laws.proofs.laws.no_view_of_a_sound_world_is_marked.Goals as goal

pub returns : goal.returns
returns c world view sound = unmarked world sound view
