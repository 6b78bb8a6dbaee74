-- Which world is loaded for a refill.
use Rattle.std.specs.Prelude.{◌≡◌, ⊤, All, IfOk, IfSome, IsSomeAnd, Option, Some, Result}
use Rattle.sqlite.specs.Held.{Held, state}
use Rattle.sqlite.specs.State.{HasCleanDisk}
use Rattle.sqlite.specs.Store.{Ghosts}
use Rattle.wu_core.specs.World.{World, MayBeKept}
use Rattle.wu_core.specs.declared.fault.Fault.{Fault}
use Rattle.wu_loader.specs.declared.finding.Found.{Found}
use Rattle.wu_loader.specs.declared.finding.Found.TheVariants as found
use Rattle.wu_machine.specs.Machine.{IsUpToDate}
use Rattle.wu_machine.specs.Sound.{IsSound}
use Rattle.wu_schema.specs.Refines.{Refines}
use Rattle.wu_tables.specs.Others.{HasOnlyAProject}

-- If a world was found, it is sound and of the present version, and its imports may be kept, it is this one.
abbrev pub KeepsSoundWorld : Found → Option World → Type 0
KeepsSoundWorld (found.World world) kept = IsSound world → IsUpToDate world → All MayBeKept world.imports → kept ≡ Some world
KeepsSoundWorld (found.Wrong wrong) kept = ⊤

-- On a clean disk, if the tables represent a sound world of the present version, a sound world is found that they
-- represent.
abbrev pub FindsSound : {S : Type 0} → Ghosts S → Held S → Held S → Result (Option World) Fault → Type 0
FindsSound g old new result =
    HasCleanDisk (state g new) → (world : World) → Refines (state g old).now world → IsSound world → IsUpToDate world
    → IfOk result (λ found. IsSomeAnd found (λ it. Refines (state g old).now it × IsSound it))

-- On a clean disk, if the tables represent a world of the present version, a world that is found is one that they
-- represent.
abbrev pub FindsTheirs : {S : Type 0} → Ghosts S → Held S → Held S → Result (Option World) Fault → Type 0
FindsTheirs g old new result =
    HasCleanDisk (state g new) → (world : World) → Refines (state g old).now world → IsUpToDate world → IfOk result (λ found. IfSome found (Refines (state g old).now))

-- Which world is found of a database, on a clean disk.
pub record FindsAlone {S : Type 0} (g : Ghosts S) (old new : Held S) (result : Result (Option World) Fault) : Type 0 where
  -- If a world is found, all that the database has is a project's.
  pub only : HasCleanDisk (state g new) → IfOk result (λ found. IfSome found (λ _. HasOnlyAProject (state g old).now.schema))
  -- If the tables represent a world, a world that is found is one that they represent.
  pub theirs :
      HasCleanDisk (state g new) → (world : World) → Refines (state g old).now world
      → IfOk result (λ found. IfSome found (Refines (state g old).now))
