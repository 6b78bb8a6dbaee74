-- How many commands of a script were done, and what it put out of them.
use Rattle.std.proofs.Common.{◌∙◌, inl, inr, ℕ, ◌+◌, Bool, false, List, [], ◌∷◌, ◌++◌, length, take, Option, Some, None, refl, sym, ap, subst, arith}
use Rattle.sqlite.specs.State.{HasCleanDisk}
use Rattle.sqlite_trees.specs.declared.store.Store.{Ghosts}
use Rattle.wu_core.specs.World.{World}
use Rattle.wu_core.specs.declared.fault.Fault.{Fault}
use Rattle.wu_drive.specs.Driving.{Drives, world_after}
use Rattle.wu_drive.specs.declared.runs.Run.{Run}
use Rattle.wu_drive.proofs.DrivingLemmas.{one_fault, never_told}
use Rattle.wu_drive.proofs.LifeLemmas.{lengthens}
use Rattle.wu_machine.specs.declared.command.Answer.{Answer}
use Rattle.wu_machine.specs.Sessions.{world_of_life}
use Rattle.wu_passes.specs.declared.project.Project.{Project}
use Rattle.wu_passes.specs.Projects.{IsOver, IsSessionOpen, has_ended, state_of}
use Rattle.wu_passes.specs.Standing.{GoesOn}
use Rattle.wu_passes.proofs.SessionLemmas.{over_shows}
use Rattle.wu_report.specs.Writing.{AppendsFront}
use Rattle.wu_arguments.specs.declared.action.Action.{Action}
use Rattle.wu_arguments.specs.declared.action.Action.TheVariants.{Commands, Look, Refused}
use Rattle.wu_arguments.specs.declared.script.Mode.{Mode}
use Rattle.wu_arguments.specs.declared.script.Mode.TheVariants.{Once, Repeated, Tried}
use Rattle.wu_arguments.specs.declared.step.LineFault.{LineFault}
use Rattle.wu_arguments.specs.declared.step.Step.{Step}
use Rattle.wu_cli.specs.Performing.{commands_of_action, Performs}
use Rattle.wu_cli.specs.Repeating.{commands_as, commands_by, commands_of_step, commands_of_steps, unrolled, world_behind}
use Rattle.wu_cli.specs.Scripting.{PerformsScript, PerformsSteps, so_far}
use Rattle.wu_cli.specs.Telling.{DrivesCommands, DrivesSteps, LengthensBySteps, TellsAction, TellsAs, TellsBy}
use Rattle.wu_cli.specs.Trying.{EndsTried, PerformsAs, PerformsBy, RanStep, refusal_line}
use Rattle.wu_cli.proofs.PrintLemmas.{each_prints, one_prints, refused_prints, stop_prints}
use Rattle.wu_cli.proofs.ActionLemmas.{after_all, all_drives, drives_within, next_within, so_far_drives, world_of}
use Rattle.wu_cli.proofs.ScriptLemmas.{commands_both, each_done, each_goes, each_over}
use Rattle.wu_cli.proofs.TryLemmas.{after_accepted, drives_accepted, ran_clean, refused_as, refused_done, refused_over, stop_done, stop_over}

module _ {S W : Type 0} {store : Ghosts S} (contents : W → Option (List ℕ)) where
  -- what an action that ended with a fault did of its commands, and what it put out of them
  one_tells : (old new : Project S store) (out_old out_new : W) (action : Action) (fault : Fault) → Performs contents old new out_old out_new action (Some fault)
      → IsSessionOpen old → HasCleanDisk (state_of new) → (world : World) → IsOver old world
      → (answers : List Answer) × (run : Run) × (is_cut : Bool) × Drives world (commands_of_action action) answers run is_cut (state_of new)
      × TellsAction (contents out_old) (contents out_new) world action run.acknowledged fault
      × (IsSessionOpen new → IsOver new (world_after world (commands_of_action action) run.acknowledged))
  one_tells old new out_old out_new (Commands commands) fault (run, runs, is) going clean world over =
      let (answers, written, drives, drives_from) = runs.answers in
      let driven = drives going clean world over in
      let shown = drives_from going clean world (over_shows old world over) in (
        answers,
        run,
        has_ended new,
        driven,
        (answers, driven.answered, record { counted = written.counted; whole = λ other. written.whole (λ cut. other (sym is ∙ cut)); front = written.front }),
        λ still. record { is_project = driven.project; version = shown.shows.version; goes = driven.goes still },
      )
  one_tells old new out_old out_new (Look view) fault sees going clean world over = (
    [],
    so_far 0,
    false,
    all_drives world [] [] (state_of new) tt (sees.goes clean world over.goes) over.is_project,
    (refl, one_prints contents old new out_old out_new (Look view) (Some fault) sees going clean world (over_shows old world over)),
    λ still. record { is_project = over.is_project; version = sees.version ∙ over.version; goes = sees.goes clean world over.goes },
  )
  one_tells old new out_old out_new (Refused why) fault kept going clean world over = (
    [],
    so_far 0,
    false,
    all_drives world [] [] (state_of new) tt (subst (λ p. GoesOn (state_of p) world) (sym kept.0) over.goes) over.is_project,
    (refl, one_prints contents old new out_old out_new (Refused why) (Some fault) kept going clean world (over_shows old world over)),
    λ still. subst (λ p. IsOver p world) (sym kept.0) over,
  )

  -- likewise, where it was done once
  once_tells : (old new : Project S store) (out_old out_new : W) (action : Action) (fault : Fault) → Performs contents old new out_old out_new action (Some fault)
      → IsSessionOpen old → HasCleanDisk (state_of new) → (world : World) → IsOver old world
      → (answers : List Answer) × (count : ℕ) × (is_cut : Bool) × Drives world (commands_of_action action) answers (so_far count) is_cut (state_of new)
      × TellsAction (contents out_old) (contents out_new) world action count fault
      × (IsSessionOpen new → IsOver new (world_after world (commands_of_action action) count))
  once_tells old new out_old out_new action fault does going clean world over =
      let it = one_tells old new out_old out_new action fault does going clean world over in
      (it.0, it.1.acknowledged, it.2, so_far_drives world (commands_of_action action) it.0 it.1 it.2 (state_of new) it.3, it.4, it.5)

  -- where it was tried
  tried_tells : (old new : Project S store) (out_old out_done out_new : W) (action : Action) (told : Option Fault) (fault : Fault) → Performs contents old new out_old out_done action told
      → EndsTried contents out_done out_new told (Some fault) → IsSessionOpen old → HasCleanDisk (state_of new) → (world : World) → IsOver old world
      → (answers : List Answer) × (count : ℕ) × (is_cut : Bool) × Drives world (commands_by Tried world action) answers (so_far count) is_cut (state_of new)
      × TellsBy Tried (contents out_old) (contents out_new) world action count fault
      × (IsSessionOpen new → IsOver new (world_after world (commands_by Tried world action) count))
  tried_tells old new out_old out_done out_new action None fault does (none, same) going clean world over = never_told fault (sym none)
  tried_tells old new out_old out_done out_new action (Some refused) fault does (inl (is_refused, passed)) going clean world over =
      let shows = over_shows old world over in
      let did = refused_done contents old new out_old out_done action refused does is_refused going clean world shows in
      let behind = refused_over contents old new out_old out_done action refused does is_refused going clean world over in
      let commands = commands_by Tried world action in (
        did.0,
        length commands,
        false,
        all_drives world commands did.0 (state_of new) did.1 behind.goes behind.is_project,
        inr (record {
          all = refl;
          output = passed.0;
          mid = contents out_done;
          whole = refused_prints contents old new out_old out_done action refused does is_refused going clean world shows;
          front = subst (λ r. AppendsFront (contents out_done) (contents out_new) (refusal_line r)) (sym (refused_as contents old new out_old out_done action refused does is_refused going clean world shows)) passed.1;
        }),
        λ still. subst (λ w. IsOver new w) (after_all world commands) behind,
      )
  tried_tells old new out_old out_done out_new action (Some other) fault does (inr (no_refusal, no_stop, is, same)) going clean world over =
      let it = one_tells old new out_old out_done action other does going clean world over in
      let kept = drives_accepted world (commands_of_action action) it.0 it.1 it.2 (state_of new) it.3 in
      let told = subst (λ o. TellsAction (contents out_old) (contents o) world action it.1.acknowledged fault) (sym same)
      (subst (λ f. TellsAction (contents out_old) (contents out_done) world action it.1.acknowledged f) (one_fault other fault (sym is)) it.4) in
      let same_world = after_accepted world (commands_of_action action) it.0 it.1 it.2 (state_of new) it.3 in
      (it.0, it.1.acknowledged, kept.0, kept.1, inl told, λ still. subst (λ w. IsOver new w) (sym same_world) (it.5 still))

  by_tells : (old new : Project S store) (out_old out_new : W) (mode : Mode) (action : Action) (fault : Fault) → PerformsBy contents mode old new out_old out_new action (Some fault)
      → IsSessionOpen old → HasCleanDisk (state_of new) → (world : World) → IsOver old world
      → (answers : List Answer) × (count : ℕ) × (is_cut : Bool) × Drives world (commands_by mode world action) answers (so_far count) is_cut (state_of new)
      × TellsBy mode (contents out_old) (contents out_new) world action count fault
      × (IsSessionOpen new → IsOver new (world_after world (commands_by mode world action) count))
  by_tells old new out_old out_new Once action fault does = once_tells old new out_old out_new action fault does
  by_tells old new out_old out_new Repeated action fault does = once_tells old new out_old out_new action fault does
  by_tells old new out_old out_new Tried action fault tries = tried_tells old new out_old tries.out_done out_new action tries.told fault tries.does tries.ends

  as_tells : (old new : Project S store) (out_old out_new : W) (stop : Option ℕ) (mode : Mode) (action : Action) (fault : Fault) → PerformsAs contents stop mode old new out_old out_new action (Some fault)
      → IsSessionOpen old → HasCleanDisk (state_of new) → (world : World) → IsOver old world
      → (answers : List Answer) × (count : ℕ) × (is_cut : Bool) × Drives world (commands_as stop mode world action) answers (so_far count) is_cut (state_of new)
      × TellsAs stop mode (contents out_old) (contents out_new) world action count fault
      × (IsSessionOpen new → IsOver new (world_after world (commands_as stop mode world action) count))
  as_tells old new out_old out_new None mode action fault does going clean world over = by_tells old new out_old out_new mode action fault does going clean world over
  as_tells old new out_old out_new (Some count) mode action fault stops going clean world over =
      let shows = over_shows old world over in
      let did = stop_done contents old new out_old out_new mode action count (Some fault) stops going clean world shows in
      let behind = stop_over contents old new out_old out_new mode action count (Some fault) stops going clean world over in
      let commands = take count (commands_of_action action) in (
        did.0,
        length commands,
        false,
        all_drives world commands did.0 (state_of new) did.1 behind.goes behind.is_project,
        record {
          all = refl;
          output = stops.passed.0;
          mid = contents stops.out_done;
          whole = stop_prints contents old new out_old out_new mode action count (Some fault) stops going clean world shows;
          front = stops.passed.1;
        },
        λ still. subst (λ w. IsOver new w) (after_all world commands) behind,
      )

  drives_steps : (old new : Project S store) (out_old out_new : W) (steps : List RanStep) (end : Option LineFault) → PerformsSteps contents old new out_old out_new steps end
      → IsSessionOpen old → HasCleanDisk (state_of new) → (world : World) → IsOver old world
      → (it : DrivesCommands world steps end (contents out_old) (contents out_new) (state_of new))
      × (IsSessionOpen new → IsOver new (world_after world (commands_of_steps world steps) it.count))
  drives_steps old new out_old out_new steps None each going clean world over =
      let done = each_done contents old new out_old out_new steps each going clean world (over_shows old world over) in
      let behind = each_over contents old new out_old out_new steps each going clean world over in
      let commands = commands_of_steps world steps in (
        record {
          count = length commands;
          answers = done.0;
          is_cut = false;
          drives = all_drives world commands done.0 (state_of new) done.1 behind.goes behind.is_project;
          told = each_prints contents old new out_old out_new steps each going clean world (over_shows old world over);
          whole = λ none. refl;
        },
        λ still. subst (λ w. IsOver new w) (after_all world commands) behind,
      )
  drives_steps old new out_old out_new steps (Some end) until going clean world over =
      let last_clean = ran_clean contents until.mid new until.out_mid out_new until.last (Some end.fault) until.ends in
      let before : HasCleanDisk (state_of until.mid) = omega (arith, last_clean, clean) in
      let done = each_done contents old until.mid out_old until.out_mid until.before until.each going before world (over_shows old world over) in
      let here = each_over contents old until.mid out_old until.out_mid until.before until.each going before world over in
      let still = each_goes contents old until.mid out_old until.out_mid until.before until.each going in
      let firsts = commands_of_steps world until.before in
      let behind = world_of world firsts in
      let last = as_tells until.mid new until.out_mid out_new until.last.stop until.last.step.mode until.last.step.action end.fault until.ends still clean behind here in
      let mine = commands_of_step behind until.last in
      let others = commands_of_steps (world_behind behind until.last) until.after in
      let all = ap (λ ss. commands_of_steps world ss) until.order ∙ commands_both world until.before (until.last ∷ until.after) in
      let there = next_within world firsts mine others done.0 last.0 (so_far last.1) last.2 (state_of new) done.1 last.3 in (
        record {
          count = length firsts + last.1;
          answers = done.0 ++ last.0;
          is_cut = last.2;
          drives = subst (λ cs. Drives world cs (done.0 ++ last.0) (so_far (length firsts + last.1)) last.2 (state_of new)) (sym all)
              (drives_within world firsts mine others done.0 last.0 (so_far last.1) last.2 (state_of new) done.1 last.3);
          told = record {
            front = until.before;
            last = until.last;
            behind = until.after;
            order = until.order;
            mid = contents until.out_mid;
            whole = each_prints contents old until.mid out_old until.out_mid until.before until.each going before world (over_shows old world over);
            done = last.1;
            counted = refl;
            part = last.4;
          };
          whole = λ none. absurd (cc);
        },
        λ still. subst (λ cs. IsOver new (world_after world cs (length firsts + last.1))) (sym all) (subst (λ w. IsOver new w) (sym there) (last.5 still)),
      )

  pub drives_script : (old new : Project S store) (out_old out_new : W) (steps : List Step) (end : Option LineFault) → PerformsScript contents old new out_old out_new steps end → DrivesSteps contents old new out_old out_new steps end
  drives_script old new out_old out_new steps end it going clean world over =
      let (driven, on) = drives_steps old new out_old out_new (unrolled world it.as_ran) end (it.over going clean world (over_shows old world over)) going clean world over in
      (it.as_ran, it.are, driven, on)

  pub lengthens_script : (old new : Project S store) (out_old out_new : W) (steps : List Step) (end : Option LineFault) → PerformsScript contents old new out_old out_new steps end → LengthensBySteps contents old new out_old out_new steps end
  lengthens_script old new out_old out_new steps end it going clean start life over =
      let world = world_of_life start life in
      let (ran, are, driven, on) = drives_script old new out_old out_new steps end it going clean world over in
      (ran, are, driven, lengthens start life (commands_of_steps world (unrolled world ran)) driven.answers (so_far driven.count) driven.is_cut (state_of new) driven.drives)
