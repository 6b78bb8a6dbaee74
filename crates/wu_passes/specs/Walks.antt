-- A walk over what a view lists of a project.
use Rattle.std.specs.Prelude.{◌≡◌, List, Result, Err, IfSome}
use Rattle.sqlite.specs.Store.{Ghosts}
use Rattle.wu_core.specs.declared.fault.Fault.{Fault}
use Rattle.wu_core.specs.declared.fault.Fault.TheVariants.{Ended, OldSchema}
use Rattle.wu_core.specs.World.{World}
use Rattle.wu_store.specs.Loading.{IsReadOnly}
use Rattle.wu_views.specs.Walking.{Walked}
use Rattle.wu_passes.specs.declared.project.Project.{Project}
use Rattle.wu_passes.specs.Projects.{BreaksOn, connection_of, IsPresentSession, IsSessionOpen, older_version, has_ended, IsSessionEnded, KeepsLimit, KeepsVersion, state_of}

-- A walk only reads: it ends no session and commits nothing, and the version and the limit on steps stay.
pub record OnlyReads {S : Type 0} {g : Ghosts S} (old new : Project S g) : Type 0 where
  pub session : has_ended new ≡ has_ended old
  pub read : IsReadOnly (state_of old) (state_of new)
  pub limit : KeepsLimit old new
  pub version : KeepsVersion old new

-- The walk is refused with this fault, and neither the project nor the taker of lines is touched.
abbrev pub RefusesWalk : {S K R : Type 0} {g : Ghosts S} → Project S g → Project S g → K → K → Result R Fault → Fault → Type 0
RefusesWalk old new first last result fault = (result ≡ Err fault) × (new ≡ old) × (last ≡ first)

-- All that is known of a walk over a project.
pub record WalksOver {S T K R : Type 0} {g : Ghosts S} (lines_of : World → List T) (IsReadable : World → Type 0) (Takes Refuses : K → K → T → Type 0) (old new : Project S g) (first last : K) (result : Result R Fault) : Type 0 where
  -- After the end of a session, and over an older version, the walk is refused.
  pub ended : IsSessionEnded old → RefusesWalk old new first last result Ended
  pub older : IsSessionOpen old → IfSome (older_version old) (λ version. RefusesWalk old new first last result (OldSchema version))
  -- Over the present version, it is a walk over the connection.
  pub walked : IsSessionOpen old → IsPresentSession old → Walked g lines_of IsReadable Takes Refuses (connection_of old) (connection_of new) first last result
  pub reads : OnlyReads old new
  -- `Broken` means that the disk failed, or that the connection was not open.
  pub broke : BreaksOn old new result
