use Rattle.wu_sound_laws.proofs.Consequences.{session_values}
use Rattle.wu_sound_laws.proofs.laws.sessions_have_values.Goals as goal

pub returns : goal.returns
returns c commands run has_ended moments = session_values commands run has_ended moments
