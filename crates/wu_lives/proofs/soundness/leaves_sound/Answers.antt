use Rattle.std.proofs.Common.{List, [], ◌∷◌, subst, sym}
use Rattle.std.proofs.lemmas.List.Elements.{recursion_from_All}
use Rattle.std.specs.List.{All, AllByRecursion}
use Rattle.wu_core.specs.World.{World}
use Rattle.wu_machine.specs.Machine.{HasValues}
use Rattle.wu_machine.specs.Sessions.{accepted, Lived, world_lived}
use Rattle.wu_sound_laws.specs.Laws.{HaveValues}
use Rattle.wu_sound_laws.proofs.Consequences.{lives_sound, session_values}
use Rattle.wu_lives.specs.Lives.{AreSessionsOf, Transcript}
use Rattle.wu_lives.proofs.soundness.leaves_sound.Goals as goal

-- each session of a life accepted requests of its commands
sessions_have : (world : World) (told : List Transcript) (life : List Lived) → AreSessionsOf world told life → AllByRecursion (λ (t : Transcript). HaveValues t.commands) told
    → AllByRecursion (λ (lived : Lived). All HasValues (accepted lived.session)) life
sessions_have world [] [] are moments = tt
sessions_have world [] (lived ∷ life) are moments = absurd are
sessions_have world (t ∷ told) [] are moments = absurd are
sessions_have world (t ∷ told) (lived ∷ life) are moments = (
  subst (λ session. All HasValues (accepted session)) (sym are.0.session) (session_values t.commands t.run are.0.has_ended moments.0),
  sessions_have (world_lived world lived) told life are.1 moments.1,
)

pub returns : goal.returns
returns c world told life moments sound are =
    lives_sound world life (sessions_have world told life are (recursion_from_All (λ (t : Transcript). HaveValues t.commands) told moments)) sound
