-- Laws of the changes that make a world of an empty one.
use Rattle.std.specs.Prelude.{List}
use Rattle.sqlite.specs.Effect.{Database}
use Rattle.wu_core.specs.World.{World}
use Rattle.wu_machine.specs.Machine.{IsUpToDate}
use Rattle.wu_machine.specs.Sound.{IsSound}
use Rattle.wu_schema.specs.Refines.{Refines}
use Rattle.wu_store.specs.declared.changes.Change.{Change}
use Rattle.wu_refill.specs.Refilling.{MakesTheWorld, MayBeRefilled, Refills}

-- The changes that refill a project make its world of an empty one.
abbrev pub RefillingMakesTheWorld : Type 0
RefillingMakesTheWorld = (world : World) (changes : List Change) → MayBeRefilled world → Refills world changes → MakesTheWorld world changes

-- A sound world of the present version that tables represent is one that changes make of an empty one.
abbrev pub SoundMayBeRefilled : Type 0
SoundMayBeRefilled = (db : Database) (world : World) → Refines db world → IsSound world → IsUpToDate world → MayBeRefilled world
