-- What is done for a line or a script over an open database, and what goes out.
use Rattle.std.proofs.Common.{◌≡◌, ◌∙◌, inl, inr, ℕ, List, Option, Some, None, Result, Err, refl, sym, ap, subst, arith, false, []}
use Rattle.std.specs.Prelude.{map, OnOk}
use Rattle.std.specs.Io.KnownBytes.{Appends}
use Rattle.std.proofs.KnownBytes.{Appends-nil}
use Rattle.sqlite.specs.Held.{Held, state}
use Rattle.sqlite.specs.State.{HasCleanDisk}
use Rattle.sqlite.specs.Store.{Ghosts}
use Rattle.wu_core.specs.declared.fault.Fault.{Fault}
use Rattle.wu_core.specs.World.{World}
use Rattle.wu_passes.specs.declared.project.Project.{Project}
use Rattle.wu_passes.proofs.SessionLemmas.{over_shows}
use Rattle.wu_passes.specs.Projects.{IsOver, IsSessionOpen, has_ended, ShowsProject, state_of}
use Rattle.wu_passes.specs.Standing.{GoesOn, FaultsOnlyGrow}
use Rattle.wu_passes.proofs.AdoptingLemmas.{begins_over}
use Rattle.wu_arguments.specs.declared.action.Action.{Action}
use Rattle.wu_arguments.specs.declared.action.Action.TheVariants.{Commands, Look, Refused}
use Rattle.wu_arguments.specs.declared.step.LineFault.{LineFault}
use Rattle.wu_report.specs.Writing.{WritesTo}
use Rattle.wu_cli.specs.Performing.{Performs}
use Rattle.wu_cli.specs.Printing.{printed_action, printed_steps, printed_work, PrintsOver}
use Rattle.wu_cli.specs.Repeating.{unrolled}
use Rattle.wu_cli.specs.Trying.{RanStep}
use Rattle.wu_cli.specs.Working.{BeginsNothing, DoesOver, DrivesOver, DrivesWork, line_outcome, PerformsWork, script_outcome, WorkRanAs}
use Rattle.wu_cli.specs.declared.trouble.Trouble.{Trouble}
use Rattle.wu_cli.specs.declared.work.Work.{Work}
use Rattle.wu_cli.specs.declared.work.Work.TheVariants as work
use Rattle.wu_cli.proofs.PrintLemmas.{one_prints, script_prints}
use Rattle.wu_cli.proofs.ActionLemmas.{all_drives, one_clean}
use Rattle.wu_cli.proofs.RepeatLemmas.{unbegun, unstopped}
use Rattle.wu_cli.proofs.ScriptLemmas.{script_clean}
use Rattle.wu_cli.proofs.TellingLemmas.{drives_script}

-- what is refused in one way is refused with the same
pub same_refusal : {T A B : Type 0} (x y : A) (f g : B) → ◌≡◌ {A = Result T (A × B)} (Err (x, f)) (Err (y, g)) → (x ≡ y) × (f ≡ g)
same_refusal {T} {A} {B} x y f g is =
    let both : ◌≡◌ {A = A × B} (x, f) (y, g) = cc in
    (ap (λ (p : A × B). p.0) both, ap (λ (p : A × B). p.1) both)

-- where all went well no fault came
pub line_whole : (end : Option Fault) (whole : Type 0) → (end ≡ None → whole) → OnOk (line_outcome end) whole
line_whole None whole of_none = of_none refl
line_whole (Some fault) whole of_none = tt

pub script_whole : (end : Option LineFault) (whole : Type 0) → (end ≡ None → whole) → OnOk (script_outcome end) whole
script_whole None whole of_none = of_none refl
script_whole (Some fault) whole of_none = tt

-- ---- over a project

module _ {S W : Type 0} {store : Ghosts S} (contents : W → Option (List ℕ)) (old new : Project S store) (out_old out_new : W) where
  line_works : (action : Action) (end : Option Fault) → Performs contents old new out_old out_new action end
      → IsSessionOpen old → HasCleanDisk (state_of new) → (world : World) → IsOver old world
      → DrivesWork world (work.Line action) (line_outcome end) (state_of new)
  line_works (Commands commands) end (run, runs, is) going clean world over =
      let driven = runs.answers.2 going clean world over in
      record {
        ran = [];
        are = refl;
        count = run.acknowledged;
        answers = runs.answers.0;
        is_cut = has_ended new;
        drives = record {
          within = driven.within;
          answered = driven.answered;
          end = λ fault told. absurd (cc);
          goes = driven.goes;
          ended = driven.ended;
          project = driven.project;
          cut_project = driven.cut_project;
        };
        whole = line_whole end _ (λ none. runs.all (is ∙ none));
      }
  line_works (Look view) end sees going clean world over = record {
    ran = [];
    are = refl;
    count = 0;
    answers = [];
    is_cut = false;
    drives = all_drives world [] [] (state_of new) tt (sees.goes clean world over.goes) over.is_project;
    whole = line_whole end _ (λ none. refl);
  }
  line_works (Refused why) end kept going clean world over = record {
    ran = [];
    are = refl;
    count = 0;
    answers = [];
    is_cut = false;
    drives = all_drives world [] [] (state_of new) tt (subst (λ p. GoesOn (state_of p) world) (sym kept.0) over.goes) over.is_project;
    whole = line_whole end _ (λ none. refl);
  }

  pub work_clean : (asked : Work) (done : Result (Unit {0}) Trouble) → PerformsWork contents old new out_old out_new asked done → FaultsOnlyGrow (state_of old) (state_of new)
  work_clean (work.Line action) done (end, does, is) = one_clean contents old new out_old out_new action end does
  work_clean (work.Script script) done (end, does, is) = script_clean contents old new out_old out_new script.steps end does

  -- a beginning of its commands is done over each world that the session goes on over
  pub work_drives : (asked : Work) (done : Result (Unit {0}) Trouble) → PerformsWork contents old new out_old out_new asked done
      → IsSessionOpen old → HasCleanDisk (state_of new) → (world : World) → IsOver old world
      → DrivesWork world asked done (state_of new)
  work_drives (work.Line action) done (end, does, is) going clean world over =
      subst (λ d. DrivesWork world (work.Line action) d (state_of new)) (sym is) (line_works action end does going clean world over)
  work_drives (work.Script script) done (end, does, is) going clean world over =
      let (ran, are, driven, on) = drives_script contents old new out_old out_new script.steps end does going clean world over in
      subst (λ d. DrivesWork world (work.Script script) d (state_of new)) (sym is) (record {
        ran = ran;
        are = are;
        count = driven.count;
        answers = driven.answers;
        is_cut = driven.is_cut;
        drives = driven.drives;
        whole = script_whole end _ driven.whole;
      })

-- ---- over an open database

module _ {S W : Type 0} (g : Ghosts S) (contents : W → Option (List ℕ)) (conn again : Held S) (out_old out_new : W) (asked : Work) (done : Result (Unit {0}) Trouble) where
  stands : (none : BeginsNothing g contents conn again out_old out_new asked done) → HasCleanDisk (state g again) → (world : World) → GoesOn (state g conn) world → GoesOn (state g again) world
  stands none clean world goes = (none.refused.given clean).goes world goes

  pub drives_over : DoesOver g contents conn again out_old out_new asked done → DrivesOver g conn again asked done
  drives_over (inl does) clean world project begun =
      let after : HasCleanDisk (state_of does.new) = subst (λ c. HasCleanDisk (state g c)) does.released clean in
      let kept = work_clean contents does.old does.new out_old out_new asked done does.does in
      let before : HasCleanDisk (state_of does.old) = omega (arith, kept, after) in
      let over = begins_over g conn does.old does.begins before world project begun in
      inl (subst (λ c. DrivesWork world asked done (state g c)) (sym does.released)
      (work_drives contents does.old does.new out_old out_new asked done does.does does.begins.going after world over))
  drives_over (inr none) clean world project begun = inr (record {
    fault = none.fault;
    told = none.told;
    why = none.refused.told;
    stands = stands none clean world;
  })

-- ---- what goes out

module _ {S W : Type 0} {store : Ghosts S} (contents : W → Option (List ℕ)) (old new : Project S store) (out_old out_new : W) where
  work_prints : (asked : Work) (done : Result (Unit {0}) Trouble) → PerformsWork contents old new out_old out_new asked done
      → IsSessionOpen old → HasCleanDisk (state_of new) → (world : World) → ShowsProject old world
      → (ran : List RanStep) × WorkRanAs asked ran × WritesTo contents out_old out_new (printed_work world asked ran) done
  work_prints (work.Line action) done (end, does, is) going clean world shows =
      ([], refl, subst (λ d. WritesTo contents out_old out_new (printed_action world action) d) (sym is) (one_prints contents old new out_old out_new action end does going clean world shows))
  work_prints (work.Script script) done (end, does, is) going clean world shows =
      let (ran, are, prints) = script_prints contents old new out_old out_new script.steps end does going clean world shows in
      (ran, are, subst (λ d. WritesTo contents out_old out_new (printed_steps world (unrolled world ran)) d) (sym is) prints)

-- nothing stopped the work
unstopped_work : (asked : Work) → (ran : List RanStep) × WorkRanAs asked ran
unstopped_work (work.Line action) = ([], refl)
unstopped_work (work.Script script) = (map unstopped script.steps, unbegun script.steps)

module _ {S W : Type 0} (g : Ghosts S) (contents : W → Option (List ℕ)) (conn again : Held S) (out_old out_new : W) (asked : Work) (done : Result (Unit {0}) Trouble) where
  pub prints_over : DoesOver g contents conn again out_old out_new asked done → PrintsOver g contents conn again out_old out_new asked done
  prints_over (inl does) clean world project begun =
      let after : HasCleanDisk (state_of does.new) = subst (λ c. HasCleanDisk (state g c)) does.released clean in
      let kept = work_clean contents does.old does.new out_old out_new asked done does.does in
      let before : HasCleanDisk (state_of does.old) = omega (arith, kept, after) in
      let shows = over_shows does.old world (begins_over g conn does.old does.begins before world project begun) in
      work_prints contents does.old does.new out_old out_new asked done does.does does.begins.going after world shows
  prints_over (inr none) clean world project begun =
      let (ran, are) = unstopped_work asked in (
        ran,
        are,
        subst (λ d. WritesTo contents out_old out_new (printed_work world asked ran) d) (sym none.told)
            (0, subst (λ o. Appends (contents out_old) (contents o) []) (sym none.unwritten) (Appends-nil (contents out_old))),
      )
