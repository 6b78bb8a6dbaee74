-- What a call that only reads says of its answer and of its faults, whatever it asks for.
use Rattle.std.specs.Prelude.{◌≡◌, ◌≢◌, Result, None, IfErr, IfOk, ⊤}
use Rattle.sqlite.specs.Held.{Held, state}
use Rattle.sqlite.specs.State.{HasCleanDisk}
use Rattle.sqlite.specs.Store.{Ghosts}
use Rattle.sqlite.specs.Effect.{Database}
use Rattle.wu_core.specs.declared.fault.Fault.{Fault}
use Rattle.wu_core.specs.declared.fault.Fault.TheVariants.{NotAProject}
use Rattle.wu_core.specs.World.{World}
use Rattle.wu_schema.specs.Asking.{Asks, ServesUnlessFailed}
use Rattle.wu_schema.specs.Faults.{IsStoreFault}
use Rattle.wu_schema.specs.Refines.{Refines}
use Rattle.wu_store.specs.StandsFor.{KnowsClasses, StandsFor}

-- The tables represent the world, which has classes.
abbrev pub WithClasses : Database → World → Type 0
WithClasses db world = KnowsClasses world × Refines db world

-- The tables represent the world, which has classes, and its queue.
abbrev pub WithQueue : Database → World → Type 0
WithQueue db world = KnowsClasses world × StandsFor db world

-- A call that only reads, by any number of questions. It begins no transaction and commits nothing, and except after
-- `Memory` and `Broken` all is as before (`asks`). Where this holds (`Asked`), as where it asks at least one question,
-- the connection is open afterwards, except after these two (`opens`). Its fault is one of these (`fault`). On a clean
-- disk it finds this of each world over which the tables stood before it (`found`). If that world can be read, and
-- steps have no limit, `NotAProject` is not returned (`unrefused`).
pub record Reads {S T W : Type 0} (g : Ghosts S) (old new : Held S) (result : Result T Fault) (Asked : Type 0) (Told : Fault → Type 0) (Over : Database → W → Type 0) (Finds : Result T Fault → W → Type 0) (Can : W → Type 0) : Type 0 where
  pub asks : Asks g old new result
  pub opens : Asked → ServesUnlessFailed g new result
  pub fault : IfErr result Told
  pub found : HasCleanDisk (state g new) → (world : W) → Over (state g old).now world → Finds result world
  pub unrefused :
      HasCleanDisk (state g new) → (world : W) → Over (state g old).now world → Can world → old.step_limit ≡ None
      → IfErr result (λ fault. fault ≢ NotAProject)

module _ {S T : Type 0} (g : Ghosts S) (old new : Held S) (result : Result T Fault) where
  module _ (Asked : Type 0) (Finds : Result T Fault → World → Type 0) (Can : World → Type 0) where
    -- A fault is one of the store, and the tables represent the world. Where this holds, the connection is open
    -- afterwards, except after `Memory` and `Broken`.
    abbrev pub ReadsWorldIf : Type 0
    ReadsWorldIf = Reads g old new result Asked IsStoreFault Refines Finds Can

    -- Likewise of a world with classes.
    abbrev pub ReadsClassedIf : Type 0
    ReadsClassedIf = Reads g old new result Asked IsStoreFault WithClasses Finds Can

    -- Likewise of a world with classes and its queue.
    abbrev pub ReadsQueuedIf : Type 0
    ReadsQueuedIf = Reads g old new result Asked IsStoreFault WithQueue Finds Can

  module _ (Finds : Result T Fault → World → Type 0) (Can : World → Type 0) where
    -- A fault is one of the store, and the tables represent the world. The connection is open afterwards, except after
    -- `Memory` and `Broken`.
    abbrev pub ReadsWorld : Type 0
    ReadsWorld = ReadsWorldIf ⊤ Finds Can

    -- Likewise of a world with classes.
    abbrev pub ReadsClassed : Type 0
    ReadsClassed = ReadsClassedIf ⊤ Finds Can

    -- Likewise of a world with classes and its queue.
    abbrev pub ReadsQueued : Type 0
    ReadsQueued = ReadsQueuedIf ⊤ Finds Can

-- An answer is the value of this function for the world.
abbrev pub FindsAt : {T : Type 0} → (World → T) → Result T Fault → World → Type 0
FindsAt of result world = IfOk result (λ found. found ≡ of world)
