use Rattle.std.proofs.lemmas.List.Elements.{recursion_from_All}
use Rattle.std.specs.List.{All}
use Rattle.wu_machine.specs.Machine.{HasValues}
use Rattle.wu_machine.specs.Sessions.{Lived, accepted}
use Rattle.wu_sound_laws.proofs.Consequences.{lives_sound}
use Rattle.wu_sound_laws.proofs.laws.lives_stay_sound.Goals as goal

pub returns : goal.returns
returns c world life moments sound = lives_sound world life (recursion_from_All (λ (lived : Lived). All HasValues (accepted lived.session)) life moments) sound
