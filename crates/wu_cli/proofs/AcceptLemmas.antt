-- The commands that a session accepts.
use Rattle.std.proofs.Common.{◌≡◌, ◌⊎◌, ◌∙◌, inl, inr, ℕ, Bool, true, false, List, [], ◌∷◌, ◌++◌, map, take, Option, None, Result, Ok, Err, refl, sym, subst, arith}
use Rattle.std.proofs.lemmas.Bool.{cases_Bool}
use Rattle.sqlite.specs.State.{HasCleanDisk}
use Rattle.sqlite_trees.specs.declared.store.Store.{Ghosts}
use Rattle.wu_core.specs.World.{World}
use Rattle.wu_core.specs.declared.fault.Fault.{Fault}
use Rattle.wu_machine.specs.Commands.{request_of}
use Rattle.wu_machine.specs.Machine.{fold_steps}
use Rattle.wu_passes.specs.declared.project.Project.{Project}
use Rattle.wu_passes.specs.Projects.{has_ended, IsOver, IsSessionOpen, state_of}
use Rattle.wu_passes.specs.Standing.{FaultsOnlyGrow}
use Rattle.wu_arguments.specs.declared.refusal.Refusal.{Refusal}
use Rattle.wu_arguments.specs.declared.step.Script.{Script}
use Rattle.wu_cli.specs.Repeating.{commands_of_steps, unrolled}
use Rattle.wu_cli.specs.Exports.{SaysOfExport}
use Rattle.wu_cli.specs.Hearing.{Hears}
use Rattle.wu_cli.specs.Answering.{is_cut}
use Rattle.wu_cli.specs.Sessions.{Accepts, AnswersEach, AnswersHeard, DoesAsked, DoesHeard, ends_with, EndsInput, EndsSession, RunsSession}
use Rattle.wu_cli.specs.declared.line_trouble.LineTrouble.{LineTrouble}
use Rattle.wu_cli.proofs.ActionLemmas.{answer_both, world_both}
use Rattle.wu_cli.proofs.ScriptLemmas.{script_clean}

-- A session that goes on has not ended.
ends_never : (told : Result (Unit {0}) Fault) (done : Result Bool LineTrouble) (cut : Bool) → is_cut done ≡ cut → ends_with told true done ≡ None → ⊥
ends_never (Err fault) done cut is none = absurd (cc)
ends_never (Ok told) done true is none = absurd (let some = rw is at none in cc)
ends_never (Ok told) done false is none = absurd (let some = rw is at none in cc)

module _ {S : Type 0} {store : Ghosts S} where
  -- No command was accepted yet.
  pub accepts_none : (project : Project S store) (world : World) → IsOver project world → Accepts world project
  accepts_none project world over = record { commands = []; answers = []; answered = tt; over = over }

  -- More commands were accepted, over the world after those before them.
  pub accepts_both : (mid new : Project S store) (world : World) (one : Accepts world mid) → Accepts (fold_steps world (map request_of one.commands)) new → Accepts world new
  accepts_both mid new world one two = record {
    commands = one.commands ++ two.commands;
    answers = one.answers ++ two.answers;
    answered = answer_both world one.commands two.commands one.answers two.answers one.answered two.answered;
    over = subst (λ w. IsOver new w) (sym (world_both world one.commands two.commands)) two.over;
  }

module _ {S W : Type 0} {store : Ghosts S} (contents : W → Option (List ℕ)) where
  module _ (gives : List ℕ → ℕ → Option (List ℕ) → Type 0) (exports : SaysOfExport) (db : List ℕ) where
    asked_clean : (old new : Project S store) (out_old out_new : W) (asked : Result Script Refusal) (done : Result Bool LineTrouble) → DoesAsked contents gives exports db old new out_old out_new asked done → FaultsOnlyGrow (state_of old) (state_of new)
    asked_clean old new out_old out_new (Ok script) done (end, out_mid, does, then) = script_clean contents old new out_old out_mid script.steps end does.does
    asked_clean old new out_old out_new (Err why) done (is, same, unwritten) = subst (λ p. FaultsOnlyGrow (state_of old) (state_of p)) (sym same) (omega arith)

    pub heard_clean : (old new : Project S store) (out_old out_new : W) (heard : Result (List ℕ) Refusal) (done : Result Bool LineTrouble) → DoesHeard contents gives exports db old new out_old out_new heard done → FaultsOnlyGrow (state_of old) (state_of new)
    heard_clean old new out_old out_new (Ok text) done (asked, given, does) = asked_clean old new out_old out_new asked done does
    heard_clean old new out_old out_new (Err why) done (is, same, unwritten) = subst (λ p. FaultsOnlyGrow (state_of old) (state_of p)) (sym same) (omega arith)

    asked_accepts : (old new : Project S store) (out_old out_new : W) (asked : Result Script Refusal) (done : Result Bool LineTrouble) → DoesAsked contents gives exports db old new out_old out_new asked done
        → IsSessionOpen old → IsSessionOpen new → HasCleanDisk (state_of new) → (world : World) → IsOver old world → Accepts world new
    asked_accepts old new out_old out_new (Ok script) done (end, out_mid, does, then) going still clean world over =
        let (ran, are, driven, on) = does.drives going clean world over in
        record { commands = take driven.count (commands_of_steps world (unrolled world ran)); answers = driven.answers; answered = driven.drives.answered; over = on still }
    asked_accepts old new out_old out_new (Err why) done (is, same, unwritten) going still clean world over =
        subst (λ p. Accepts world p) (sym same) (accepts_none old world over)

    heard_accepts : (old new : Project S store) (out_old out_new : W) (heard : Result (List ℕ) Refusal) (done : Result Bool LineTrouble) → DoesHeard contents gives exports db old new out_old out_new heard done
        → IsSessionOpen old → IsSessionOpen new → HasCleanDisk (state_of new) → (world : World) → IsOver old world → Accepts world new
    heard_accepts old new out_old out_new (Ok text) done (asked, given, does) going still clean world over = asked_accepts old new out_old out_new asked done does going still clean world over
    heard_accepts old new out_old out_new (Err why) done (is, same, unwritten) going still clean world over = subst (λ p. Accepts world p) (sym same) (accepts_none old world over)

    pub still_open : (old new : Project S store) (out_old out_new : W) (heard : Result (List ℕ) Refusal) → AnswersHeard contents gives exports db old new out_old out_new heard None → IsSessionOpen new
    still_open old new out_old out_new heard it = elim (cases_Bool (has_ended new)) [
      | inl over ↦ absurd (ends_never it.told it.done (is_cut it.done) refl (subst (λ b. ends_with it.told b it.done ≡ None) over (sym it.next)))
      | inr opened ↦ opened
    ]

    pub answers_clean : (old new : Project S store) (out_old out_new : W) (heard : List (Result (List ℕ) Refusal)) → AnswersEach contents gives exports db old new out_old out_new heard → FaultsOnlyGrow (state_of old) (state_of new)
    unfolding AnswersEach
    answers_clean old new out_old out_new [] each = subst (λ p. FaultsOnlyGrow (state_of old) (state_of p)) (sym each.0) (omega arith)
    answers_clean old new out_old out_new (one ∷ more) each =
        let first = heard_clean old each.0 out_old each.2.out_done one each.2.done each.2.does in
        let rest = answers_clean each.0 new each.1 out_new more each.3 in
        omega (arith, first, rest)

    -- What the lines of a session accept.
    pub session_accepts : (old new : Project S store) (out_old out_new : W) (heard : List (Result (List ℕ) Refusal)) → AnswersEach contents gives exports db old new out_old out_new heard
        → IsSessionOpen old → HasCleanDisk (state_of new) → (world : World) → IsOver old world → Accepts world new
    unfolding AnswersEach
    session_accepts old new out_old out_new [] each going clean world over = subst (λ p. Accepts world p) (sym each.0) (accepts_none old world over)
    session_accepts old new out_old out_new (one ∷ more) each going clean world over =
        let rest = answers_clean each.0 new each.1 out_new more each.3 in
        let before : HasCleanDisk (state_of each.0) = omega (arith, rest, clean) in
        let opened = still_open old each.0 out_old each.1 one each.2 in
        let first = heard_accepts old each.0 out_old each.2.out_done one each.2.done each.2.does going opened before world over in
        accepts_both each.0 new world first (session_accepts each.0 new each.1 out_new more each.3 opened clean (fold_steps world (map request_of first.commands)) first.over)

    -- So a session has run whose lines were heard and answered up to its end.
    pub runs_session : (old mid new : Project S store) (out_old out_mid out_new : W) (in_old in_mid in_new : Option (List ℕ)) (heard : List (Result (List ℕ) Refusal)) (status : ℕ)
        → AnswersEach contents gives exports db old mid out_old out_mid heard → Hears in_old in_mid heard
        → EndsInput contents gives exports db mid new out_mid out_new in_mid in_new status ⊎ EndsSession contents gives exports db mid new out_mid out_new in_mid in_new status
        → RunsSession contents gives exports db old new out_old out_new in_old in_new status
    runs_session old mid new out_old out_mid out_new in_old in_mid in_new heard status each hears end = record {
      heard = heard;
      mid = mid;
      out_mid = out_mid;
      in_mid = in_mid;
      each = each;
      hears = hears;
      accepts = session_accepts old mid out_old out_mid heard each;
      end = end;
    }
