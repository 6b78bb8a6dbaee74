-- From step to step of a script.
use Rattle.std.proofs.Common.{◌≡◌, ℕ, ◌+◌, List, [], ◌∷◌, ◌++◌, Option, Some, None, refl, sym, ap, subst, ◌∙◌, arith, append_assoc}
use Rattle.sqlite.specs.State.{HasCleanDisk}
use Rattle.sqlite_trees.specs.declared.store.Store.{Ghosts}
use Rattle.wu_core.specs.World.{World}
use Rattle.wu_drive.specs.Driving.{AnswerAll}
use Rattle.wu_machine.specs.declared.command.Answer.{Answer}
use Rattle.wu_passes.specs.declared.project.Project.{Project}
use Rattle.wu_passes.specs.Projects.{IsOver, IsSessionOpen, ShowsProject, state_of}
use Rattle.wu_passes.specs.Standing.{FaultsOnlyGrow}
use Rattle.wu_cli.specs.Repeating.{commands_of_steps}
use Rattle.wu_cli.specs.Scripting.{PerformsEach, PerformsScript, PerformsSteps, PerformsUntil}
use Rattle.wu_arguments.specs.declared.step.LineFault.{LineFault}
use Rattle.wu_arguments.specs.declared.step.Step.{Step}
use Rattle.wu_cli.specs.Repeating.{commands_of_step, world_behind, world_behind_steps}
use Rattle.wu_cli.specs.Trying.{PerformsRan, RanStep}
use Rattle.wu_cli.proofs.ActionLemmas.{answer_both, world_both, world_of}
use Rattle.wu_cli.proofs.TryLemmas.{ran_clean, ran_done, ran_goes, ran_over}

-- ---- one step more

module _ {S W : Type 0} {store : Ghosts S} (contents : W → Option (List ℕ)) where
  pub each_none : (project : Project S store) (out : W) → PerformsEach contents project project out out []
  unfolding PerformsEach
  each_none project out = (refl, refl)

  pub each_more : (old mid new : Project S store) (out_old out_mid out_new : W) (steps : List RanStep) (one : RanStep)
      → PerformsEach contents old mid out_old out_mid steps → PerformsRan contents one mid new out_mid out_new None
      → PerformsEach contents old new out_old out_new (steps ++ one ∷ [])
  unfolding PerformsEach
  each_more old mid new out_old out_mid out_new [] one each does =
      (new, out_new, subst (λ o. PerformsRan contents one o new out_old out_new None) each.0 (subst (λ o. PerformsRan contents one mid new o out_new None) each.1 does), (refl, refl))
  each_more old mid new out_old out_mid out_new (first ∷ steps) one each does =
      (each.0, each.1, each.2, each_more each.0 mid new each.1 out_mid out_new steps one each.3 does)

  pub each_both : (old mid new : Project S store) (out_old out_mid out_new : W) (xs ys : List RanStep)
      → PerformsEach contents old mid out_old out_mid xs → PerformsEach contents mid new out_mid out_new ys → PerformsEach contents old new out_old out_new (xs ++ ys)
  unfolding PerformsEach
  each_both old mid new out_old out_mid out_new [] ys one two =
      subst (λ p. PerformsEach contents p new out_old out_new ys) one.0 (subst (λ o. PerformsEach contents mid new o out_new ys) one.1 two)
  each_both old mid new out_old out_mid out_new (x ∷ xs) ys one two =
      (one.0, one.1, one.2, each_both one.0 mid new one.1 out_mid out_new xs ys one.3 two)

  -- steps were done, one behind them ended with a fault, and others were not begun
  pub until_both : (old mid new : Project S store) (out_old out_mid out_new : W) (xs ys after : List RanStep) (end : LineFault)
      → PerformsEach contents old mid out_old out_mid xs → PerformsUntil contents mid new out_mid out_new ys end
      → PerformsUntil contents old new out_old out_new (xs ++ (ys ++ after)) end
  until_both old mid new out_old out_mid out_new xs ys after end one two = record {
    before = xs ++ two.before;
    last = two.last;
    after = two.after ++ after;
    order = ap (λ l. xs ++ (l ++ after)) two.order ∙ ap (λ l. xs ++ l) (append_assoc two.before (two.last ∷ two.after) after) ∙ sym (append_assoc xs two.before (two.last ∷ (two.after ++ after)));
    number = two.number;
    mid = two.mid;
    out_mid = two.out_mid;
    each = each_both old mid two.mid out_old out_mid two.out_mid xs two.before one two.each;
    ends = two.ends;
  }

-- ---- the commands of steps

pub commands_both : (world : World) (xs ys : List RanStep) → commands_of_steps world (xs ++ ys) ≡ commands_of_steps world xs ++ commands_of_steps (world_behind_steps world xs) ys
commands_both world [] ys = refl
commands_both world (x ∷ xs) ys =
    let mine = commands_of_step world x in
    let mid = world_behind world x in
    ap (λ cs. mine ++ cs) (commands_both mid xs ys ∙ ap (λ w. commands_of_steps mid xs ++ commands_of_steps w ys) (sym (world_both world mine (commands_of_steps mid xs))))
    ∙ sym (append_assoc mine (commands_of_steps mid xs) (commands_of_steps (world_behind_steps world (x ∷ xs)) ys))

-- ---- all steps

module _ {S W : Type 0} {store : Ghosts S} (contents : W → Option (List ℕ)) where
  pub each_clean : (old new : Project S store) (out_old out_new : W) (steps : List RanStep) → PerformsEach contents old new out_old out_new steps → FaultsOnlyGrow (state_of old) (state_of new)
  unfolding PerformsEach
  each_clean old new out_old out_new [] each = subst (λ p. FaultsOnlyGrow (state_of old) (state_of p)) (sym each.0) (omega arith)
  each_clean old new out_old out_new (one ∷ steps) each =
      let first = ran_clean contents old each.0 out_old each.1 one None each.2 in
      let rest = each_clean each.0 new each.1 out_new steps each.3 in
      omega (arith, first, rest)

  pub each_goes : (old new : Project S store) (out_old out_new : W) (steps : List RanStep) → PerformsEach contents old new out_old out_new steps → IsSessionOpen old → IsSessionOpen new
  unfolding PerformsEach
  each_goes old new out_old out_new [] each going = subst (λ p. IsSessionOpen p) (sym each.0) going
  each_goes old new out_old out_new (one ∷ steps) each going =
      each_goes each.0 new each.1 out_new steps each.3 (ran_goes contents old each.0 out_old each.1 one each.2 going)

  pub each_done : (old new : Project S store) (out_old out_new : W) (steps : List RanStep) → PerformsEach contents old new out_old out_new steps
      → IsSessionOpen old → HasCleanDisk (state_of new) → (world : World) → ShowsProject old world
      → (answers : List Answer) × AnswerAll world (commands_of_steps world steps) answers × ShowsProject new (world_of world (commands_of_steps world steps))
  unfolding PerformsEach
  each_done old new out_old out_new [] each going clean world shows = ([], tt, subst (λ p. ShowsProject p world) (sym each.0) shows)
  each_done old new out_old out_new (one ∷ steps) each going clean world shows =
      let rest_clean = each_clean each.0 new each.1 out_new steps each.3 in
      let before : HasCleanDisk (state_of each.0) = omega (arith, rest_clean, clean) in
      let first = ran_done contents old each.0 out_old each.1 one each.2 going before world shows in
      let still = ran_goes contents old each.0 out_old each.1 one each.2 going in
      let mine = commands_of_step world one in
      let rest = each_done each.0 new each.1 out_new steps each.3 still clean (world_of world mine) first.2 in (
        first.0 ++ rest.0,
        answer_both world mine (commands_of_steps (world_of world mine) steps) first.0 rest.0 first.1 rest.1,
        subst (λ w. ShowsProject new w) (sym (world_both world mine (commands_of_steps (world_of world mine) steps))) rest.2,
      )

  pub each_over : (old new : Project S store) (out_old out_new : W) (steps : List RanStep) → PerformsEach contents old new out_old out_new steps
      → IsSessionOpen old → HasCleanDisk (state_of new) → (world : World) → IsOver old world → IsOver new (world_of world (commands_of_steps world steps))
  unfolding PerformsEach
  each_over old new out_old out_new [] each going clean world over = subst (λ p. IsOver p world) (sym each.0) over
  each_over old new out_old out_new (one ∷ steps) each going clean world over =
      let rest_clean = each_clean each.0 new each.1 out_new steps each.3 in
      let before : HasCleanDisk (state_of each.0) = omega (arith, rest_clean, clean) in
      let first = ran_over contents old each.0 out_old each.1 one each.2 going before world over in
      let still = ran_goes contents old each.0 out_old each.1 one each.2 going in
      let mine = commands_of_step world one in
      subst (λ w. IsOver new w) (sym (world_both world mine (commands_of_steps (world_of world mine) steps))) (each_over each.0 new each.1 out_new steps each.3 still clean (world_of world mine) first)

  pub steps_clean : (old new : Project S store) (out_old out_new : W) (steps : List RanStep) (end : Option LineFault) → PerformsSteps contents old new out_old out_new steps end → FaultsOnlyGrow (state_of old) (state_of new)
  steps_clean old new out_old out_new steps None each = each_clean old new out_old out_new steps each
  steps_clean old new out_old out_new steps (Some end) until =
      let first = each_clean old until.mid out_old until.out_mid until.before until.each in
      let last = ran_clean contents until.mid new until.out_mid out_new until.last (Some end.fault) until.ends in
      omega (arith, first, last)

  -- so is a script, over the steps that it comes to
  pub script_clean : (old new : Project S store) (out_old out_new : W) (steps : List Step) (end : Option LineFault) → PerformsScript contents old new out_old out_new steps end → FaultsOnlyGrow (state_of old) (state_of new)
  script_clean old new out_old out_new steps end it = steps_clean old new out_old out_new it.ran end it.does
