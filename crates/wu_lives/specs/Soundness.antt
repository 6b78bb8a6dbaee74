-- What a history of sessions leaves of a sound project is sound.
use Rattle.std.specs.Prelude.{All, List}
use Rattle.wu_core.specs.World.{World}
use Rattle.wu_machine.specs.Sessions.{Lived, world_of_life}
use Rattle.wu_machine.specs.Sound.{IsSound}
use Rattle.wu_sound_laws.specs.Laws.{HaveValues}
use Rattle.wu_lives.specs.Lives.{AreSessionsOf, Transcript}

-- If the world before was sound, each world that a history of these sessions left is, whichever of its cut commands
-- were done.
abbrev pub LeavesSound : Type 0
LeavesSound =
    (world : World) (told : List Transcript) (life : List Lived) → All (λ t. HaveValues t.commands) told → IsSound world
    → AreSessionsOf world told life → IsSound (world_of_life world life)
