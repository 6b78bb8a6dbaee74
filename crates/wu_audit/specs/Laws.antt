-- Laws of sound worlds.
use Rattle.std.specs.Prelude.{◌↔◌, List, All}
use Rattle.std.specs.List.Sorted.{IsPermutation}
use Rattle.wu_core.specs.World.{World, Import}
use Rattle.wu_machine.specs.Sound.{IsRecorded, IsSound}
use Rattle.wu_audit.specs.Records.{AreBacked, HasKeys}

-- If each key is used once, workunits, grants and archived rows agree exactly if each workunit's row does.
abbrev pub RecordedByRows : Type 0
RecordedByRows = (world : World) → HasKeys world → AreBacked world ↔ All (IsRecorded world) world.workunits

-- A sound world stays sound in any order of its imports.
abbrev pub SoundInAnyOrder : Type 0
SoundInAnyOrder =
    (world : World) (imports : List Import) → IsPermutation world.imports imports → IsSound world
    → IsSound (record world { imports = imports })
