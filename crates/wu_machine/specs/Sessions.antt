-- Sessions and histories of sessions: what was acknowledged, what was cut, and which worlds a crash may leave.
use Rattle.std.specs.Prelude.{Bool, List, [], ◌∷◌, ◌++◌, option_to_list, if◌then◌else◌, Option}
use Rattle.wu_core.specs.World.{World}
use Rattle.wu_machine.specs.Machine.{fold_steps}
use Rattle.wu_machine.specs.Requests.{Request}

-- The requests that were answered with success, in order, and the one during which the session ended, if there is one.
pub record Session : Type 0 where
  pub acknowledged : List Request
  pub cut : Option Request

-- The acknowledged requests in order, and then the cut one.
abbrev pub accepted : Session → List Request
accepted session = session.acknowledged ++ option_to_list session.cut

-- The world after the acknowledged requests, and the world after the cut one too.
abbrev pub world_acknowledged : World → Session → World
world_acknowledged world session = fold_steps world session.acknowledged

abbrev pub world_accepted : World → Session → World
world_accepted world session = fold_steps world (accepted session)

-- A session of a history, and what the next opening found of its cut request: `true` if it was done.
pub record Lived : Type 0 where
  pub session : Session
  pub is_cut_in : Bool

-- The world after a session, as the next opening found it.
abbrev pub world_lived : World → Lived → World
world_lived world lived = if lived.is_cut_in then world_accepted world lived.session else world_acknowledged world lived.session

-- The world after a history, session by session.
abbrev pub world_of_life : World → List Lived → World
world_of_life world [] = world
world_of_life world (lived ∷ more) = world_of_life (world_lived world lived) more
