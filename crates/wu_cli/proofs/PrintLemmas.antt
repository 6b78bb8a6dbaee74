-- What goes out for an action and for the steps of a script.
use Rattle.std.proofs.Common.{◌≡◌, ◌∙◌, ◌⊎◌, ◌++◌, ◌∷◌, [], ℕ, List, Option, Some, None, IfSome, IsSome, ◌+◌, ◌-◌, length, length-append, length-take, refl, sym, ap, subst, arith, inl, inr, append_assoc, append-nil, take, drop, take-append-drop, true}
use Rattle.std.proofs.lemmas.List.{take_min}
use Rattle.std.proofs.KnownBytes.{Appends-nil, Appends-trans}
use Rattle.std.proofs.Math.Seq.{take-length}
use Rattle.std.specs.Io.KnownBytes.{Appends}
use Rattle.sqlite.specs.State.{HasCleanDisk}
use Rattle.sqlite.specs.Store.{Ghosts}
use Rattle.wu_core.specs.declared.fault.Fault.{Fault}
use Rattle.wu_core.specs.declared.fault.Fault.TheVariants.{NotAProject, OldSchema, Output}
use Rattle.wu_core.specs.World.{World}
use Rattle.wu_machine.specs.declared.command.Answer.{Answer}
use Rattle.wu_machine.specs.declared.command.Command.{Command}
use Rattle.wu_machine.specs.Commands.{request_of}
use Rattle.wu_machine.specs.Machine.{IsUpToDate, reply, step}
use Rattle.wu_passes.specs.declared.project.Project.{Project}
use Rattle.wu_machine.proofs.Versions.{up_to_date}
use Rattle.wu_passes.proofs.SessionLemmas.{none_older, present_none}
use Rattle.wu_passes.specs.Projects.{IsSessionOpen, older_version, ShowsProject, state_of}
use Rattle.wu_store.specs.StandsFor.{KnowsClasses}
use Rattle.wu_report.specs.Texts.{view_text}
use Rattle.wu_report.specs.Views.{RefusesWith}
use Rattle.wu_report.specs.Writing.{AppendsFront, WritesTo}
use Rattle.wu_report.proofs.WritingLemmas.{AppendsFront-after, AppendsFront-longer, AppendsFront-nothing}
use Rattle.wu_drive.specs.Driving.{AnswerAll}
use Rattle.wu_drive.specs.Running.{RunsList}
use Rattle.wu_drive.specs.declared.runs.Run.{Run}
use Rattle.wu_drive.specs.Writing.{answer_text, answers_text}
use Rattle.wu_arguments.specs.declared.action.Action.{Action}
use Rattle.wu_arguments.specs.declared.action.Action.TheVariants.{Commands, Look, Refused}
use Rattle.wu_arguments.specs.declared.script.Mode.{Mode}
use Rattle.wu_arguments.specs.declared.script.Mode.TheVariants.{Once, Repeated, Tried}
use Rattle.wu_arguments.specs.declared.step.LineFault.{LineFault}
use Rattle.wu_arguments.specs.declared.step.Step.{Step}
use Rattle.wu_cli.specs.Endings.{fault_line}
use Rattle.wu_cli.specs.Performing.{as_result, Performs}
use Rattle.wu_cli.specs.Printing.{printed_accepted, printed_as, printed_by, printed_replies, printed_reply, printed_steps, printed_until, PrintsAction, PrintsSteps, shown_text}
use Rattle.wu_cli.specs.Repeating.{commands_of_step, commands_of_steps, unrolled, world_behind}
use Rattle.wu_cli.specs.Scripting.{PerformsEach, PerformsScript, PerformsSteps}
use Rattle.wu_cli.specs.Trying.{accepted_commands, EndsTried, is_refusal, PassesOver, PerformsAs, PerformsBy, PerformsRan, RanStep, growth, refusal_line, refusal_of, Stops, StopsAction}
use Rattle.wu_cli.specs.Working.{line_outcome, script_outcome}
use Rattle.wu_cli.proofs.ActionLemmas.{shown_present, world_both, world_of}
use Rattle.wu_cli.proofs.ScriptLemmas.{each_clean, each_done, each_goes}
use Rattle.wu_cli.proofs.TryLemmas.{accepted_front, all_accepted, not_output, ran_clean, ran_done, ran_goes, refused_as, refused_at, view_refused}

-- ---- texts of answers

-- the texts of the machine's answers are what it prints
replies_are : (world : World) (commands : List Command) (answers : List Answer) → AnswerAll world commands answers → answers_text answers ≡ printed_replies world commands
replies_are world [] [] all = refl
replies_are world [] (answer ∷ answers) all = absurd all
replies_are world (command ∷ commands) [] all = absurd all
replies_are world (command ∷ commands) (answer ∷ answers) all =
    let here : answer_text answer ≡ printed_reply (reply world (request_of command)) = sym (ap printed_reply all.0) in
    ap (λ text. answer_text answer ++ text) (replies_are (step world (request_of command)) commands answers all.1)
    ∙ ap (λ text. text ++ printed_replies (step world (request_of command)) commands) here

replies_both : (world : World) (xs ys : List Command) → printed_replies world (xs ++ ys) ≡ printed_replies world xs ++ printed_replies (world_of world xs) ys
replies_both world [] ys = refl
replies_both world (x ∷ xs) ys =
    ap (λ text. printed_reply (reply world (request_of x)) ++ text) (replies_both (step world (request_of x)) xs ys)
    ∙ sym (append_assoc (printed_reply (reply world (request_of x))) (printed_replies (step world (request_of x)) xs) (printed_replies (world_of (step world (request_of x)) xs) ys))

steps_both : (world : World) (xs ys : List RanStep) → printed_steps world (xs ++ ys) ≡ printed_steps world xs ++ printed_steps (world_of world (commands_of_steps world xs)) ys
steps_both world [] ys = refl
steps_both world (x ∷ xs) ys =
    let mine = commands_of_step world x in
    let mid = world_behind world x in
    let text = printed_as x.stop x.step.mode world x.step.action in
    let rest : printed_steps mid (xs ++ ys) ≡ printed_steps mid xs ++ printed_steps (world_of world (mine ++ commands_of_steps mid xs)) ys =
    steps_both mid xs ys ∙ ap (λ (w : World). printed_steps mid xs ++ printed_steps w ys) (sym (world_both world mine (commands_of_steps mid xs))) in
    ap (λ more. text ++ more) rest ∙ sym (append_assoc text (printed_steps mid xs) (printed_steps (world_of world (mine ++ commands_of_steps mid xs)) ys))

-- ---- one action

-- a prefix that went out is as long as the contents grew
grown_front : (before after : Option (List ℕ)) (text : List ℕ) (told : ℕ) → Appends before after (take told text) → Appends before after (take (growth before after) text)
grown_front None after text told front = tt
grown_front (Some old) None text told front = absurd front
grown_front (Some old) (Some new) text told front =
    let long : length new ≡ length old + length (take told text) = ap length front ∙ length-append old (take told text) in
    let all : length new - length old ≡ length (take told text) = omega (arith, long) in
    subst (λ bytes. new ≡ old ++ bytes) (sym (ap (λ k. take k text) (all ∙ length-take told text) ∙ take_min told text)) front

-- a world of the present version has classes
with_classes : (world : World) → IsUpToDate world → KnowsClasses world
with_classes world is = omega (arith, is)

module _ {S W : Type 0} {store : Ghosts S} (contents : W → Option (List ℕ)) (old new : Project S store) (out_old out_new : W) where
  -- over an older version a view writes nothing
  none_written : (fault : Fault) (older : Option ℕ) → IsSome older → IfSome older (λ version. RefusesWith contents old new out_old out_new (as_result (Some fault)) (OldSchema version))
      → contents out_new ≡ contents out_old
  none_written fault None some refused = absurd cc
  none_written fault (Some version) some refused = refused.2

  -- a prefix of the texts of commands that begin with those that were done
  front_prints : (commands all : List Command) (run : Run) → RunsList contents old new out_old out_new commands run
      → IsSessionOpen old → HasCleanDisk (state_of new) → (world : World) → ShowsProject old world → take run.acknowledged all ≡ take run.acknowledged commands
      → AppendsFront (contents out_old) (contents out_new) (printed_replies world all)
  front_prints commands all run runs going clean world shows same =
      let (answers, written, drives, drives_from) = runs.answers in
      let driven = drives_from going clean world shows in
      let done = take run.acknowledged all in
      let left = drop run.acknowledged all in
      let texts : answers_text answers ≡ printed_replies world done =
      replies_are world (take run.acknowledged commands) answers driven.answered ∙ ap (λ cs. printed_replies world cs) (sym same) in
      let whole : printed_replies world all ≡ printed_replies world done ++ printed_replies (world_of world done) left =
      ap (λ cs. printed_replies world cs) (sym (take-append-drop run.acknowledged all)) ∙ replies_both world done left in
      let front : AppendsFront (contents out_old) (contents out_new) (answers_text answers) = (written.front.0, written.front.2) in
      subst (AppendsFront (contents out_old) (contents out_new)) (sym whole)
      (AppendsFront-longer (contents out_old) (contents out_new) (printed_replies world done) (printed_replies (world_of world done) left)
      (subst (AppendsFront (contents out_old) (contents out_new)) texts front))

  pub one_prints : (action : Action) (end : Option Fault) → Performs contents old new out_old out_new action end → PrintsAction contents old new out_old out_new action end
  one_prints (Commands commands) None (run, runs, is) going clean world shows =
      let (answers, written, drives, drives_from) = runs.answers in
      let driven = drives_from going clean world shows in
      let all : take run.acknowledged commands ≡ commands = ap (λ k. take k commands) (runs.all is) ∙ take-length commands in
      let texts : answers_text answers ≡ printed_replies world commands =
      replies_are world (take run.acknowledged commands) answers driven.answered ∙ ap (λ cs. printed_replies world cs) all in
      subst (Appends (contents out_old) (contents out_new)) texts
      (written.whole (λ cut. absurd (let no : ◌≡◌ {A = Option Fault} None (Some Output) = sym is ∙ cut in cc)))
  one_prints (Commands commands) (Some fault) (run, runs, is) going clean world shows = front_prints commands commands run runs going clean world shows refl
  one_prints (Look view) None sees going clean world shows =
      sees.text going clean world (with_classes world (shown_present contents old new out_old out_new view sees going world shows)) shows.shows
  one_prints (Look view) (Some fault) sees going clean world shows = elim (none_or_some (older_version old)) [
    | inl none ↦ sees.text going clean world (with_classes world (up_to_date world shows.is_project (none_older world.version (sym none ∙ shows.version)))) shows.shows
    | inr some ↦
        subst (λ c. AppendsFront (contents out_old) c (view_text world view)) (sym (none_written fault (older_version old) some (sees.refused.older going)))
        (AppendsFront-nothing (contents out_old) (view_text world view))
  ]
    where
      none_or_some : (older : Option ℕ) → (older ≡ None) ⊎ IsSome older
      none_or_some None = inl refl
      none_or_some (Some version) = inr refl
  one_prints (Refused why) None kept going clean world shows = absurd (let no = kept.2 in cc)
  one_prints (Refused why) (Some fault) kept going clean world shows = subst (λ o. AppendsFront (contents out_old) (contents o) []) (sym kept.1) (AppendsFront-nothing (contents out_old) [])

  -- ---- a tried one

  -- all that it did was accepted
  accepted_prints : (action : Action) → Performs contents old new out_old out_new action None → IsSessionOpen old → HasCleanDisk (state_of new) → (world : World) → ShowsProject old world
      → Appends (contents out_old) (contents out_new) (printed_accepted world action)
  accepted_prints (Commands commands) does going clean world shows =
      let all = (all_accepted contents old new out_old out_new (Commands commands) does going clean world shows).0 in
      subst (λ cs. Appends (contents out_old) (contents out_new) (printed_replies world cs)) (sym all) (one_prints (Commands commands) None does going clean world shows)
  accepted_prints (Look view) sees going clean world shows =
      let present = present_none world.version (shown_present contents old new out_old out_new view sees going world shows) in
      subst (λ o. Appends (contents out_old) (contents out_new) (shown_text o (view_text world view))) present (one_prints (Look view) None sees going clean world shows)
  accepted_prints (Refused why) kept going clean world shows = absurd (let no = kept.2 in cc)

  -- it was refused
  pub refused_prints : (action : Action) (fault : Fault) → Performs contents old new out_old out_new action (Some fault) → is_refusal fault ≡ true
      → IsSessionOpen old → HasCleanDisk (state_of new) → (world : World) → ShowsProject old world
      → Appends (contents out_old) (contents out_new) (printed_accepted world action)
  refused_prints (Commands commands) fault (run, runs, is) refused going clean world shows =
      let (answers, written, drives, drives_from) = runs.answers in
      let driven = drives_from going clean world shows in
      let are = (refused_at contents old new out_old out_new commands fault run runs is refused going clean world shows).0 in
      subst (Appends (contents out_old) (contents out_new)) (replies_are world (take run.acknowledged commands) answers driven.answered ∙ ap (λ cs. printed_replies world cs) (sym are))
      (written.whole (λ cut. absurd (not_output fault refused (let same : ◌≡◌ {A = Option Fault} (Some fault) (Some Output) = sym is ∙ cut in cc))))
  refused_prints (Look view) fault sees refused going clean world shows =
      let (version, older, told, same, unwritten) = view_refused contents old new out_old out_new view fault sees refused going in
      subst (λ o. Appends (contents out_old) (contents out_new) (shown_text o (view_text world view))) (sym older ∙ shows.version)
      (subst (λ c. Appends (contents out_old) c []) (sym unwritten) (Appends-nil (contents out_old)))
  refused_prints (Refused why) fault kept refused going clean world shows = subst (λ o. Appends (contents out_old) (contents o) []) (sym kept.1) (Appends-nil (contents out_old))

  -- another fault ended it
  ended_prints : (action : Action) (fault : Fault) → Performs contents old new out_old out_new action (Some fault) → IsSessionOpen old → HasCleanDisk (state_of new) → (world : World) → ShowsProject old world
      → AppendsFront (contents out_old) (contents out_new) (printed_accepted world action)
  ended_prints (Commands commands) fault (run, runs, is) going clean world shows =
      let driven = runs.answers.3 going clean world shows in
      front_prints commands (accepted_commands world commands) run runs going clean world shows (accepted_front world commands runs.answers.0 run.acknowledged driven.answered)
  ended_prints (Look view) fault sees going clean world shows =
      subst (λ o. AppendsFront (contents out_old) (contents out_new) (shown_text o (view_text world view))) shows.version (by_version (older_version old) refl)
    where
      by_version : (older : Option ℕ) → older_version old ≡ older → AppendsFront (contents out_old) (contents out_new) (shown_text (older_version old) (view_text world view))
      by_version None is = subst (λ o. AppendsFront (contents out_old) (contents out_new) (shown_text o (view_text world view))) (sym is) (one_prints (Look view) (Some fault) sees going clean world shows)
      by_version (Some version) is =
          subst (λ c. AppendsFront (contents out_old) c (shown_text (older_version old) (view_text world view)))
          (sym (none_written fault (older_version old) (subst (λ o. IsSome o) (sym is) refl) (sees.refused.older going)))
          (AppendsFront-nothing (contents out_old) (shown_text (older_version old) (view_text world view)))
  ended_prints (Refused why) fault kept going clean world shows = one_prints (Refused why) (Some fault) kept going clean world shows

module _ {S W : Type 0} {store : Ghosts S} (contents : W → Option (List ℕ)) (old new : Project S store) where
  -- the line of a refusal behind the answers
  passed_prints : (out_old out_done out_new : W) (text : List ℕ) (fault : Fault) (end : Option Fault) → Appends (contents out_old) (contents out_done) text → PassesOver contents out_done out_new fault end
      → WritesTo contents out_old out_new (text ++ fault_line fault) (line_outcome end)
  passed_prints out_old out_done out_new text fault None whole passed =
      Appends-trans (contents out_old) (contents out_done) (contents out_new) text (fault_line fault) whole passed
  passed_prints out_old out_done out_new text fault (Some end) whole passed =
      AppendsFront-after (contents out_old) (contents out_done) (contents out_new) text (fault_line fault) whole passed.1

  tried_prints : (out_old out_done out_new : W) (action : Action) (told end : Option Fault) → Performs contents old new out_old out_done action told → EndsTried contents out_done out_new told end
      → IsSessionOpen old → HasCleanDisk (state_of new) → (world : World) → ShowsProject old world → WritesTo contents out_old out_new (printed_by Tried world action) (line_outcome end)
  tried_prints out_old out_done out_new action None end does (none, same) going clean world shows =
      let no_line : printed_accepted world action ++ [] ≡ printed_by Tried world action =
      ap (λ r. printed_accepted world action ++ refusal_line r) (sym (all_accepted contents old new out_old out_done action does going clean world shows).1) in
      let whole : Appends (contents out_old) (contents out_new) (printed_by Tried world action) =
      subst (λ o. Appends (contents out_old) (contents o) (printed_by Tried world action)) (sym same)
      (subst (Appends (contents out_old) (contents out_done)) (sym (append-nil (printed_accepted world action)) ∙ no_line)
      (accepted_prints contents old new out_old out_done action does going clean world shows)) in
      subst (λ e. WritesTo contents out_old out_new (printed_by Tried world action) (line_outcome e)) (sym none) whole
  tried_prints out_old out_done out_new action (Some fault) end does (inl (refused, passed)) going clean world shows =
      subst (λ r. WritesTo contents out_old out_new (printed_accepted world action ++ refusal_line r) (line_outcome end))
      (sym (refused_as contents old new out_old out_done action fault does refused going clean world shows))
      (passed_prints out_old out_done out_new (printed_accepted world action) fault end (refused_prints contents old new out_old out_done action fault does refused going clean world shows) passed)
  tried_prints out_old out_done out_new action (Some fault) end does (inr (other, no_stop, is, same)) going clean world shows =
      let front : AppendsFront (contents out_old) (contents out_new) (printed_by Tried world action) =
      subst (λ o. AppendsFront (contents out_old) (contents o) (printed_by Tried world action)) (sym same)
      (AppendsFront-longer (contents out_old) (contents out_done) (printed_accepted world action) (refusal_line (refusal_of world action))
      (ended_prints contents old new out_old out_done action fault does going clean world shows)) in
      subst (λ e. WritesTo contents out_old out_new (printed_by Tried world action) (line_outcome e)) (sym is) front

  by_prints : (out_old out_new : W) (mode : Mode) (action : Action) (end : Option Fault) → PerformsBy contents mode old new out_old out_new action end
      → IsSessionOpen old → HasCleanDisk (state_of new) → (world : World) → ShowsProject old world → WritesTo contents out_old out_new (printed_by mode world action) (line_outcome end)
  by_prints out_old out_new Once action end does = one_prints contents old new out_old out_new action end does
  by_prints out_old out_new Repeated action end does = one_prints contents old new out_old out_new action end does
  by_prints out_old out_new Tried action end tries = tried_prints out_old tries.out_done out_new action tries.told end tries.does tries.ends

  -- one that the store stopped: the answers to the commands before the refused one, or so many bytes of the view
  action_prints : (out_old out_done : W) (action : Action) (count : ℕ) → StopsAction contents old new out_old out_done action count
      → IsSessionOpen old → HasCleanDisk (state_of new) → (world : World) → ShowsProject old world
      → Appends (contents out_old) (contents out_done) (printed_until count world action)
  action_prints out_old out_done (Commands commands) count runs going clean world shows =
      let (answers, written, drives, drives_from) = runs.answers in
      let driven = drives_from going clean world shows in
      subst (Appends (contents out_old) (contents out_done)) (replies_are world (take count commands) answers driven.answered)
      (written.whole (λ cut. absurd (let no : ◌≡◌ {A = Option Fault} (Some NotAProject) (Some Output) = cut in cc)))
  action_prints out_old out_done (Look view) count (sees, long) going clean world shows =
      let (told, front) = one_prints contents old new out_old out_done (Look view) (Some NotAProject) sees going clean world shows in
      subst (λ k. Appends (contents out_old) (contents out_done) (take k (view_text world view))) (sym long)
      (grown_front (contents out_old) (contents out_done) (view_text world view) told front)
  action_prints out_old out_done (Refused why) count kept going clean world shows = subst (λ o. Appends (contents out_old) (contents o) []) (sym kept.1) (Appends-nil (contents out_old))

  pub stop_prints : (out_old out_new : W) (mode : Mode) (action : Action) (count : ℕ) (end : Option Fault) (stops : Stops contents old new out_old out_new mode action count end)
      → IsSessionOpen old → HasCleanDisk (state_of new) → (world : World) → ShowsProject old world
      → Appends (contents out_old) (contents stops.out_done) (printed_until count world action)
  stop_prints out_old out_new mode action count end stops = action_prints out_old stops.out_done action count stops.does

  as_prints : (out_old out_new : W) (stop : Option ℕ) (mode : Mode) (action : Action) (end : Option Fault) → PerformsAs contents stop mode old new out_old out_new action end
      → IsSessionOpen old → HasCleanDisk (state_of new) → (world : World) → ShowsProject old world → WritesTo contents out_old out_new (printed_as stop mode world action) (line_outcome end)
  as_prints out_old out_new None mode action end does going clean world shows = by_prints out_old out_new mode action end does going clean world shows
  as_prints out_old out_new (Some count) mode action end stops going clean world shows =
      passed_prints out_old stops.out_done out_new (printed_until count world action) NotAProject end
      (stop_prints out_old out_new mode action count end stops going clean world shows) stops.passed

  ran_prints : (out_old out_new : W) (ran : RanStep) (end : Option Fault) → PerformsRan contents ran old new out_old out_new end
      → IsSessionOpen old → HasCleanDisk (state_of new) → (world : World) → ShowsProject old world
      → WritesTo contents out_old out_new (printed_as ran.stop ran.step.mode world ran.step.action) (line_outcome end)
  ran_prints out_old out_new ran end does = as_prints out_old out_new ran.stop ran.step.mode ran.step.action end does

-- ---- all steps

module _ {S W : Type 0} {store : Ghosts S} (contents : W → Option (List ℕ)) where
  pub each_prints : (old new : Project S store) (out_old out_new : W) (steps : List RanStep) → PerformsEach contents old new out_old out_new steps
      → IsSessionOpen old → HasCleanDisk (state_of new) → (world : World) → ShowsProject old world
      → Appends (contents out_old) (contents out_new) (printed_steps world steps)
  unfolding PerformsEach
  each_prints old new out_old out_new [] each going clean world shows =
      subst (λ o. Appends (contents out_old) (contents o) []) (sym each.1) (Appends-nil (contents out_old))
  each_prints old new out_old out_new (one ∷ steps) each going clean world shows =
      let rest_clean = each_clean contents each.0 new each.1 out_new steps each.3 in
      let before : HasCleanDisk (state_of each.0) = omega (arith, rest_clean, clean) in
      let first = ran_prints contents old each.0 out_old each.1 one None each.2 going before world shows in
      let done = ran_done contents old each.0 out_old each.1 one each.2 going before world shows in
      let still = ran_goes contents old each.0 out_old each.1 one each.2 going in
      let rest = each_prints each.0 new each.1 out_new steps each.3 still clean (world_behind world one) done.2 in
      Appends-trans (contents out_old) (contents each.1) (contents out_new) (printed_as one.stop one.step.mode world one.step.action) (printed_steps (world_behind world one) steps) first rest

  steps_print : (old new : Project S store) (out_old out_new : W) (steps : List RanStep) (end : Option LineFault) → PerformsSteps contents old new out_old out_new steps end
      → IsSessionOpen old → HasCleanDisk (state_of new) → (world : World) → ShowsProject old world
      → WritesTo contents out_old out_new (printed_steps world steps) (script_outcome end)
  steps_print old new out_old out_new steps None each going clean world shows = each_prints old new out_old out_new steps each going clean world shows
  steps_print old new out_old out_new steps (Some end) until going clean world shows =
      let last_clean = ran_clean contents until.mid new until.out_mid out_new until.last (Some end.fault) until.ends in
      let before : HasCleanDisk (state_of until.mid) = omega (arith, last_clean, clean) in
      let firsts = each_prints old until.mid out_old until.out_mid until.before until.each going before world shows in
      let done = each_done contents old until.mid out_old until.out_mid until.before until.each going before world shows in
      let still = each_goes contents old until.mid out_old until.out_mid until.before until.each going in
      let mid = world_of world (commands_of_steps world until.before) in
      let last = ran_prints contents until.mid new until.out_mid out_new until.last (Some end.fault) until.ends still clean mid done.2 in
      let so_long = printed_steps world until.before in
      let its = printed_as until.last.stop until.last.step.mode mid until.last.step.action in
      let behind = printed_steps (world_behind mid until.last) until.after in
      let whole : printed_steps world steps ≡ (so_long ++ its) ++ behind =
      ap (λ ss. printed_steps world ss) until.order ∙ steps_both world until.before (until.last ∷ until.after) ∙ sym (append_assoc so_long its behind) in
      subst (AppendsFront (contents out_old) (contents out_new)) (sym whole)
      (AppendsFront-longer (contents out_old) (contents out_new) (so_long ++ its) behind
      (AppendsFront-after (contents out_old) (contents until.out_mid) (contents out_new) so_long its firsts last))

  pub script_prints : (old new : Project S store) (out_old out_new : W) (steps : List Step) (end : Option LineFault) → PerformsScript contents old new out_old out_new steps end
      → PrintsSteps contents old new out_old out_new steps end
  script_prints old new out_old out_new steps end it going clean world shows =
      (it.as_ran, it.are, steps_print old new out_old out_new (unrolled world it.as_ran) end (it.over going clean world shows) going clean world shows)
