-- What a view keeps of a project, and how it ends a session.
use Rattle.std.specs.Prelude.{◌≡◌, Result, Err}
use Rattle.sqlite.specs.State.{HasCleanDisk}
use Rattle.sqlite_trees.specs.declared.store.Store.{Ghosts}
use Rattle.wu_core.specs.declared.fault.Fault.{Fault}
use Rattle.wu_core.specs.declared.fault.Fault.TheVariants.{Broken}
use Rattle.wu_core.specs.World.{World}
use Rattle.wu_store.specs.Loading.{IsReadOnly}
use Rattle.wu_passes.specs.Standing.{GoesOn}
use Rattle.wu_passes.specs.declared.project.Project.{Project}
use Rattle.wu_passes.specs.Projects.{IsSessionOpen, IsSessionEnded, KeepsLimit, KeepsVersion, state_of}

-- On a clean disk, the session goes on over each world over which it went on before.
abbrev pub StillGoesOn : {S : Type 0} {store : Ghosts S} → Project S store → Project S store → Type 0
StillGoesOn old new =
    HasCleanDisk (state_of new) → (world : World) → GoesOn (state_of old) world → GoesOn (state_of new) world

-- A call that ends a session answers `Broken`.
abbrev pub EndsAsBroken : {S T : Type 0} {store : Ghosts S} → Project S store → Project S store → Result T Fault → Type 0
EndsAsBroken old new result = IsSessionOpen old → IsSessionEnded new → result ≡ Err Broken

-- The call only reads: nothing is committed, and the limit on steps and the version stay. If it ends a session, it
-- answers `Broken`.
pub record ReadsSession {S T : Type 0} {store : Ghosts S} (old new : Project S store) (result : Result T Fault) : Type 0 where
  pub read : IsReadOnly (state_of old) (state_of new)
  pub limit : KeepsLimit old new
  pub version : KeepsVersion old new
  pub ends : EndsAsBroken old new result
