-- What a plan over a project of the present version is at the version that a session knows.
use Rattle.std.proofs.Common.{◌≡◌, ℕ, false, Result, subst}
use Rattle.sqlite.specs.Held.{Held}
use Rattle.sqlite.specs.Store.{Ghosts}
use Rattle.wu_core.specs.declared.fault.Fault.{Fault}
use Rattle.wu_core.specs.World.{World}
use Rattle.wu_machine.specs.Machine.{is_upgrade}
use Rattle.wu_machine.specs.Requests.{Request}
use Rattle.wu_plans.specs.declared.plan.Plan.{Plan}
use Rattle.wu_plans.specs.Planning.{IsPresentProject, IsReadyAt, PlansAt, PlansNow, PlansProject, PlansWorld}
use Rattle.wu_store.proofs.AskLemmas.{reads_over, reads_can, reads_found}

module _ {S : Type 0} (g : Ghosts S) (old new : Held S) (result : Result Plan Fault) where
  -- of a world with its queue it says what it says of any
  pub of_world : {request : Request} {Can : World → Type 0} → ((world : World) → IsPresentProject world → Can world) → PlansWorld g old new result (PlansNow request) Can → PlansProject g old new result (PlansNow request) IsPresentProject
  of_world can it = reads_can (λ world stands is. can world is) (reads_over (λ db world stands. stands.refines) it)

  -- a pass asks the machine for this
  pub asked_at : {asked request : Request} → asked ≡ request → PlansProject g old new result (PlansNow asked) IsPresentProject → PlansProject g old new result (PlansNow request) IsPresentProject
  asked_at same = subst (λ request. PlansProject g old new result (PlansNow request) IsPresentProject) same

  pub at_version : {request : Request} (version : ℕ) → is_upgrade request ≡ false → PlansProject g old new result (PlansNow request) IsPresentProject
      → PlansProject g old new result (PlansAt version request) (IsReadyAt version request)
  at_version version other it = reads_can (λ world stands can. (can.1.0 other, can.1.1)) (reads_found (λ world stands plans of ready. plans (ready.0 other) ready.1) it)
