use Rattle.wu_audit.proofs.ExampleLemmas.{sound_agreed}
use Rattle.wu_audit.proofs.examples.one_agreed_is_sound.Goals as goal

pub returns : goal.returns
returns c = sound_agreed
