-- Every list of requests keeps a sound world sound.
use Rattle.std.specs.Prelude.{◌≤◌, List, All}
use Rattle.wu_core.specs.World.{World}
use Rattle.wu_machine.specs.Machine.{fold_steps, HasValues, present_version, step}
use Rattle.wu_machine.specs.Requests.{Request}
use Rattle.wu_machine.specs.Sound.{IsSound, IsProject}

-- Every step with values in range keeps a sound world sound.
abbrev pub KeepsSound : Type 0
KeepsSound = (world : World) (request : Request) → HasValues request → IsSound world → IsSound (step world request)

-- Every list of requests with values in range keeps a sound world sound.
abbrev pub ListsKeepSound : Type 0
ListsKeepSound =
    (world : World) (requests : List Request) → All HasValues requests → IsSound world → IsSound (fold_steps world requests)

-- Commands run over every sound world of a known version.
abbrev pub SoundIsEnough : Type 0
SoundIsEnough =
    (world : World) → IsSound world → 1 ≤ world.version → world.version ≤ present_version
    → IsProject world
