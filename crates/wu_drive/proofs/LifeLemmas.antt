-- A life, session by session.
use Rattle.std.proofs.Common.{◌≡◌, inl, inr, Bool, true, false, List, [], ◌∷◌, ◌++◌, Some, map, take, slice_get, refl, sym, subst, ◌∙◌}
use Rattle.std.proofs.lemmas.Bool.{cases_Bool}
use Rattle.sqlite.specs.State.{State}
use Rattle.sqlite.specs.Tree.{Trees}
use Rattle.wu_core.specs.World.{World}
use Rattle.wu_machine.specs.declared.command.Answer.{Answer}
use Rattle.wu_machine.specs.declared.command.Command.{Command}
use Rattle.wu_drive.specs.declared.runs.Run.{Run}
use Rattle.wu_passes.specs.Committing.{FoundAs}
use Rattle.wu_drive.specs.Driving.{Drives, Lengthens, session_of, world_after}
use Rattle.wu_machine.specs.Machine.{step}
use Rattle.wu_machine.specs.Commands.{request_of}
use Rattle.wu_machine.specs.Sessions.{Lived, world_accepted, world_lived, world_of_life}
use Rattle.wu_drive.proofs.DrivingLemmas.{fold_more}

-- one session more
pub life_more : (start : World) (life : List Lived) (lived : Lived) → world_of_life start (life ++ lived ∷ []) ≡ world_lived (world_of_life start life) lived
life_more start [] lived = refl
life_more start (first ∷ more) lived = life_more (world_lived start first) more lived

module _ (start : World) (life : List Lived) (commands : List Command) (answers : List Answer) (run : Run) (has_ended : Bool) (new : State)
    (drives : Drives (world_of_life start life) commands answers run has_ended new) (db : Trees) (may : new.may_leave db) where
  out : FoundAs db (world_after (world_of_life start life) commands run.acknowledged) → (is_cut_in : Bool) × FoundAs db (world_of_life start (life ++ record { session = session_of commands run has_ended; is_cut_in = is_cut_in } ∷ []))
  out found = (false, subst (λ w. FoundAs db w) (sym (life_more start life (record { session = session_of commands run has_ended; is_cut_in = false }))) found)

  cut_in : (cut : Command) → has_ended ≡ true → slice_get commands run.acknowledged ≡ Some cut → FoundAs db (step (world_after (world_of_life start life) commands run.acknowledged) (request_of cut))
      → (is_cut_in : Bool) × FoundAs db (world_of_life start (life ++ record { session = session_of commands run has_ended; is_cut_in = is_cut_in } ∷ []))
  cut_in cut ended there found =
      let with_cut : world_accepted (world_of_life start life) (session_of commands run has_ended) ≡ step (world_after (world_of_life start life) commands run.acknowledged) (request_of cut) =
      rw (ended, there) (fold_more (world_of_life start life) (map request_of (take run.acknowledged commands)) (request_of cut)) in
      (true, subst (λ w. FoundAs db w) (sym (life_more start life (record { session = session_of commands run has_ended; is_cut_in = true }) ∙ with_cut)) found)

  lengthened : (is_cut_in : Bool) × FoundAs db (world_of_life start (life ++ record { session = session_of commands run has_ended; is_cut_in = is_cut_in } ∷ []))
  lengthened = elim (cases_Bool has_ended) [
    | inl ended ↦
        let at = drives.ended ended in
        elim (at.2.left db may) [ inl before ↦ out before | inr after ↦ cut_in at.0 ended at.1 after ]
    | inr goes ↦ out ((drives.goes goes).left db may)
  ]

-- a run lengthens a life
pub lengthens : (start : World) (life : List Lived) (commands : List Command) (answers : List Answer) (run : Run) (has_ended : Bool) (new : State)
    → Drives (world_of_life start life) commands answers run has_ended new → Lengthens start life (session_of commands run has_ended) new
lengthens start life commands answers run has_ended new drives db may = lengthened start life commands answers run has_ended new drives db may
