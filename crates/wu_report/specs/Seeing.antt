-- All that is known of a shown view.
use Rattle.std.specs.Prelude.{◌≡◌, ◌≤◌, ℕ, List, Option, Result, Err}
use Rattle.sqlite_trees.specs.declared.store.Store.{Ghosts}
use Rattle.wu_core.specs.declared.fault.Fault.{Fault}
use Rattle.wu_core.specs.declared.fault.Fault.TheVariants.{Broken}
use Rattle.wu_machine.specs.declared.view.View.{View}
use Rattle.wu_machine.specs.declared.view.View.TheVariants.{Summary}
use Rattle.wu_store.specs.Loading.{IsReadOnly}
use Rattle.wu_passes.specs.declared.project.Project.{Project}
use Rattle.wu_passes.specs.Projects.{BreaksOn, IsSessionOpen, IsSessionEnded, KeepsLimit, KeepsVersion, ServesShown, state_of}
use Rattle.wu_passes.specs.Standing.{FaultsOnlyGrow}
use Rattle.wu_report.specs.Projects.{EndsAsBroken, StillGoesOn}
use Rattle.wu_report.specs.Views.{CountsShown, RefusesView, Shows, ShowsOrFails, ShowsUnrefused}

-- The lines of the view are written, up to the first fault.
pub record Sees {S W T : Type 0} {store : Ghosts S} (contents : W → Option (List ℕ)) (old new : Project S store) (out_old out_new : W) (view : View) (result : Result T Fault) : Type 0 where
  pub text : Shows contents old new out_old out_new view result
  pub goes : StillGoesOn old new
  pub reads : IsReadOnly (state_of old) (state_of new)
  -- A disk that is not clean stays so, and no fault of the disk is forgotten.
  pub clean : FaultsOnlyGrow (state_of old) (state_of new)
  pub counts : (state_of old).faults ≤ (state_of new).faults
  pub limit : KeepsLimit old new
  -- After the end of a session, and over an older version, nothing is shown.
  pub refused : RefusesView contents old new out_old out_new result
  -- The session ends only with `Broken`.
  pub ends : EndsAsBroken old new result
  pub broken : result ≡ Err Broken → IsSessionEnded new
  pub fault : ShowsOrFails old result
  pub unrefused : ShowsUnrefused old new view result
  pub broke : BreaksOn old new result
  pub opens : IsSessionOpen old → ServesShown old new result
  pub version : KeepsVersion old new
  -- A summary counts each row, whatever the tables represent.
  pub counted : view ≡ Summary → CountsShown contents old new out_old out_new result
