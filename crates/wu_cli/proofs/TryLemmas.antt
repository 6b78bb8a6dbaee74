-- Tried actions: what the machine accepts of them, and what a refusal leaves.
use Rattle.std.proofs.Common.{◌≡◌, ◌≢◌, ◌∙◌, inl, inr, ℕ, zero, suc, ◌≤◌, Bool, true, false, IfSome, List, [], ◌∷◌, length, take, Option, Some, None, Result, Ok, Err, refl, sym, ap, subst, arith}
use Rattle.wu_views.specs.Walking.{IsWalkFault}
use Rattle.std.proofs.lemmas.Bool.{cases_Bool}
use Rattle.std.specs.Prelude.{option_map, slice_get}
use Rattle.sqlite.specs.State.{State, HasCleanDisk}
use Rattle.sqlite_trees.specs.declared.store.Store.{Ghosts}
use Rattle.wu_core.specs.World.{World}
use Rattle.wu_core.specs.declared.fault.Fault.{Fault}
use Rattle.wu_core.specs.declared.fault.Fault.TheVariants.{Broken, NotAProject, OldSchema, Output}
use Rattle.wu_schema.specs.Faults.{IsStoreFault}
use Rattle.wu_drive.specs.Driving.{AnswerAll, Drives, world_after}
use Rattle.wu_drive.specs.Running.{RunsList}
use Rattle.wu_drive.specs.declared.runs.Run.{Run}
use Rattle.wu_drive.proofs.DrivingLemmas.{one_fault, same_command, never_told}
use Rattle.wu_machine.specs.declared.command.Answer.{Answer}
use Rattle.wu_machine.specs.declared.command.Command.{Command}
use Rattle.wu_machine.specs.declared.view.View.{View}
use Rattle.wu_machine.specs.Commands.{request_of}
use Rattle.wu_machine.specs.Imports.{Done}
use Rattle.wu_machine.specs.Machine.{done, reply, reply_of, step, world_of as world_made}
use Rattle.wu_machine.specs.Requests.{Reply, Request}
use Rattle.wu_machine.specs.Sound.{IsProject}
use Rattle.wu_passes.specs.Committing.{FoundAs}
use Rattle.wu_passes.specs.declared.project.Project.{Project}
use Rattle.wu_passes.specs.Projects.{IsOver, IsSessionOpen, has_ended, older_version, ShowsProject, state_of}
use Rattle.wu_passes.specs.Standing.{FaultsOnlyGrow, GoesOn, HasEnded, IsFailure}
use Rattle.wu_passes.proofs.SessionLemmas.{over_shows, present_none}
use Rattle.wu_report.specs.Seeing.{Sees}
use Rattle.wu_report.specs.Views.{RefusesWith}
use Rattle.wu_arguments.specs.declared.action.Action.{Action}
use Rattle.wu_arguments.specs.declared.action.Action.TheVariants.{Commands, Look, Refused}
use Rattle.wu_arguments.specs.declared.script.Mode.{Mode}
use Rattle.wu_arguments.specs.declared.script.Mode.TheVariants.{Once, Repeated, Tried}
use Rattle.wu_cli.specs.Performing.{as_result, commands_of_action, Performs}
use Rattle.wu_cli.specs.Repeating.{commands_as, commands_by, commands_of_step}
use Rattle.wu_cli.specs.Scripting.{so_far}
use Rattle.wu_cli.specs.Trying.{accepted_commands, Attempts, EndsTried, first_refusal, growth, if_accepted, is_refusal, PassesOver, PerformsAs, PerformsBy, PerformsRan, RanStep, refusal_of, refused_or, stopped_at, Stops, StopsAction, Tries}
use Rattle.wu_cli.proofs.ActionLemmas.{one_clean, one_done, one_goes, one_over, seen_over, seen_shows, shown_present, world_of}

-- ---- the commands that the machine accepts

pub accepted_all : (world : World) (commands : List Command) (answers : List Answer) → AnswerAll world commands answers
    → (accepted_commands world commands ≡ commands) × (first_refusal world commands ≡ None)
accepted_all world [] answers all = (refl, refl)
accepted_all world (command ∷ commands) [] all = absurd all
accepted_all world (command ∷ commands) (answer ∷ answers) all =
    let next = step world (request_of command) in
    let rest = accepted_all next commands answers all.1 in (
      ap (λ r. if_accepted r command (accepted_commands next commands)) all.0 ∙ ap (λ cs. command ∷ cs) rest.0,
      ap (λ r. refused_or r (first_refusal next commands)) all.0 ∙ rest.1,
    )

-- up to one that it refuses
accepted_up_to : (world : World) (commands : List Command) (answers : List Answer) (k : ℕ) (last : Command) (fault : Fault) → AnswerAll world (take k commands) answers
    → slice_get commands k ≡ Some last → reply (world_after world commands k) (request_of last) ≡ Err fault
    → (accepted_commands world commands ≡ take k commands) × (first_refusal world commands ≡ Some fault)
accepted_up_to world [] answers k last fault all there refused = absurd (cc)
accepted_up_to world (command ∷ commands) answers zero last fault all there refused =
    let next = step world (request_of command) in
    let here : reply world (request_of command) ≡ Err fault = ap (λ c. reply world (request_of c)) (same_command command last there) ∙ refused in (
      ap (λ r. if_accepted r command (accepted_commands next commands)) here,
      ap (λ r. refused_or r (first_refusal next commands)) here,
    )
accepted_up_to world (command ∷ commands) [] (suc k) last fault all there refused = absurd all
accepted_up_to world (command ∷ commands) (answer ∷ answers) (suc k) last fault all there refused =
    let next = step world (request_of command) in
    let rest = accepted_up_to next commands answers k last fault all.1 there refused in (
      ap (λ r. if_accepted r command (accepted_commands next commands)) all.0 ∙ ap (λ cs. command ∷ cs) rest.0,
      ap (λ r. refused_or r (first_refusal next commands)) all.0 ∙ rest.1,
    )

-- those that were answered are among them
pub accepted_front : (world : World) (commands : List Command) (answers : List Answer) (k : ℕ) → AnswerAll world (take k commands) answers
    → take k (accepted_commands world commands) ≡ take k commands
accepted_front world [] answers k all = refl
accepted_front world (command ∷ commands) answers zero all = refl
accepted_front world (command ∷ commands) [] (suc k) all = absurd all
accepted_front world (command ∷ commands) (answer ∷ answers) (suc k) all =
    let next = step world (request_of command) in
    ap (λ r. take (suc k) (if_accepted r command (accepted_commands next commands))) all.0 ∙ ap (λ cs. command ∷ cs) (accepted_front next commands answers k all.1)

accepted_within : (world : World) (commands : List Command) (answers : List Answer) (k : ℕ) → k ≤ length commands → AnswerAll world (take k commands) answers
    → k ≤ length (accepted_commands world commands)
accepted_within world [] answers k low all = low
accepted_within world (command ∷ commands) answers zero low all = omega arith
accepted_within world (command ∷ commands) [] (suc k) low all = absurd all
accepted_within world (command ∷ commands) (answer ∷ answers) (suc k) low all =
    let next = step world (request_of command) in
    let rest = accepted_within next commands answers k (omega (arith, low)) all.1 in
    subst (λ cs. suc k ≤ length cs) (sym (ap (λ r. if_accepted r command (accepted_commands next commands)) all.0)) (omega (arith, rest))

-- and so is the next one, if it is accepted
accepted_next : (world : World) (commands : List Command) (answers : List Answer) (k : ℕ) (last : Command) (answer : Reply) → AnswerAll world (take k commands) answers
    → slice_get commands k ≡ Some last → reply (world_after world commands k) (request_of last) ≡ Ok answer → slice_get (accepted_commands world commands) k ≡ Some last
accepted_next world [] answers k last answer all there is = absurd (cc)
accepted_next world (command ∷ commands) answers zero last answer all there is =
    let next = step world (request_of command) in
    let here : reply world (request_of command) ≡ Ok answer = ap (λ c. reply world (request_of c)) (same_command command last there) ∙ is in
    ap (λ r. slice_get (if_accepted r command (accepted_commands next commands)) zero) here ∙ there
accepted_next world (command ∷ commands) [] (suc k) last answer all there is = absurd all
accepted_next world (command ∷ commands) (first ∷ answers) (suc k) last answer all there is =
    let next = step world (request_of command) in
    ap (λ r. slice_get (if_accepted r command (accepted_commands next commands)) (suc k)) all.0 ∙ accepted_next next commands answers k last answer all.1 there is

-- ---- a session that ended within one of them

refused_makes : (world : World) (it : Result Done Fault) (fault : Fault) → reply_of it ≡ Err fault → world_made world it ≡ world
refused_makes world (Ok made) fault refused = absurd (cc)
refused_makes world (Err other) fault refused = refl

-- a refused request that was cut changed nothing
cut_refused : (s : State) (world : World) (request : Request) (fault : Fault) → reply world request ≡ Err fault → HasEnded s world request → GoesOn s world
cut_refused s world request fault refused ended = record {
  stands = λ is_open. (ended.stands is_open).stands is_open;
  left = λ db may. elim (ended.left db may) [
    | inl before ↦ before
    | inr after ↦ subst (λ w. FoundAs db w) (refused_makes world (done world request) fault refused) after
  ];
}

module _ (world : World) (commands : List Command) (answers : List Answer) (run : Run) (is_cut : Bool) (new : State) (drives : Drives world commands answers run is_cut new) where
  front : take run.acknowledged (accepted_commands world commands) ≡ take run.acknowledged commands
  front = accepted_front world commands answers run.acknowledged drives.answered

  -- the world after those that were done is one, of all and of those that the machine accepts
  pub after_accepted : world_after world (accepted_commands world commands) run.acknowledged ≡ world_after world commands run.acknowledged
  after_accepted = ap (λ cs. world_of world cs) front

  within : run.acknowledged ≤ length (accepted_commands world commands)
  within = accepted_within world commands answers run.acknowledged drives.within drives.answered

  uncut : GoesOn new (world_after world commands run.acknowledged) → Drives world (accepted_commands world commands) answers (so_far run.acknowledged) false new
  uncut goes = record {
    within = within;
    answered = subst (λ cs. AnswerAll world cs answers) (sym front) drives.answered;
    end = λ fault told. absurd (cc);
    goes = λ still. subst (λ w. GoesOn new w) (sym after_accepted) goes;
    ended = λ ended. absurd (cc);
    project = subst (λ w. IsProject w) (sym after_accepted) drives.project;
    cut_project = λ ended cut there. absurd (cc);
  }

  cut_in : (last : Command) → is_cut ≡ true → slice_get commands run.acknowledged ≡ Some last → HasEnded new (world_after world commands run.acknowledged) (request_of last)
      → (answer : Reply) → reply (world_after world commands run.acknowledged) (request_of last) ≡ Ok answer
      → Drives world (accepted_commands world commands) answers (so_far run.acknowledged) true new
  cut_in last cut there ended answer is =
      let next = accepted_next world commands answers run.acknowledged last answer drives.answered there is in
      record {
        within = within;
        answered = subst (λ cs. AnswerAll world cs answers) (sym front) drives.answered;
        end = λ fault told. absurd (cc);
        goes = λ still. absurd (cc);
        ended = λ yes. (last, next, subst (λ w. HasEnded new w (request_of last)) (sym after_accepted) ended);
        project = subst (λ w. IsProject w) (sym after_accepted) drives.project;
        cut_project = λ yes other at.
            let same : last ≡ other = same_command last other (sym next ∙ at) in
            subst (λ w. IsProject (step w (request_of other))) (sym after_accepted) (drives.cut_project cut other (there ∙ ap (λ c. Some c) same));
      }

  by_reply : (last : Command) → is_cut ≡ true → slice_get commands run.acknowledged ≡ Some last → HasEnded new (world_after world commands run.acknowledged) (request_of last)
      → (told : Result Reply Fault) → reply (world_after world commands run.acknowledged) (request_of last) ≡ told
      → (still_cut : Bool) × Drives world (accepted_commands world commands) answers (so_far run.acknowledged) still_cut new
  by_reply last cut there ended (Ok answer) is = (true, cut_in last cut there ended answer is)
  by_reply last cut there ended (Err fault) is = (false, uncut (cut_refused new (world_after world commands run.acknowledged) (request_of last) fault is ended))

  -- of the commands that the machine accepts as many were done
  pub drives_accepted : (still_cut : Bool) × Drives world (accepted_commands world commands) answers (so_far run.acknowledged) still_cut new
  drives_accepted = elim (cases_Bool is_cut) [
    | inl cut ↦
        let at = drives.ended cut in
        by_reply at.0 cut at.1 at.2 (reply (world_after world commands run.acknowledged) (request_of at.0)) refl
    | inr goes ↦ (false, uncut (drives.goes goes))
  ]

-- ---- a refusal

never_both : false ≡ true → ⊥
never_both same = absurd (cc)

not_store : (fault : Fault) → is_refusal fault ≡ true → IsStoreFault fault → ⊥
not_store fault refused (inl is) = never_both (subst (λ f. is_refusal f ≡ true) is refused)
not_store fault refused (inr (inl is)) = never_both (subst (λ f. is_refusal f ≡ true) is refused)
not_store fault refused (inr (inr is)) = never_both (subst (λ f. is_refusal f ≡ true) is refused)

not_ending : (fault : Fault) → is_refusal fault ≡ true → IsFailure fault → ⊥
not_ending fault refused (inl is) = not_store fault refused (inl is)
not_ending fault refused (inr is) = not_store fault refused (inr (inl is))

pub not_output : (fault : Fault) → is_refusal fault ≡ true → fault ≡ Output → ⊥
not_output fault refused is = never_both (subst (λ f. is_refusal f ≡ true) is refused)

not_of_view : (fault : Fault) → is_refusal fault ≡ true → IsWalkFault fault → ⊥
not_of_view fault refused (inl is) = not_output fault refused is
not_of_view fault refused (inr is) = not_store fault refused is

same_error : (one other : Fault) → ◌≡◌ {A = Result (Unit {0}) Fault} (Err one) (Err other) → one ≡ other
same_error one other same = cc

module _ {S W : Type 0} {store : Ghosts S} (contents : W → Option (List ℕ)) (old new : Project S store) (out_old out_new : W) where
  -- the session goes on
  refused_goes : (action : Action) (fault : Fault) → Performs contents old new out_old out_new action (Some fault) → is_refusal fault ≡ true → IsSessionOpen old → IsSessionOpen new
  refused_goes (Commands commands) fault (run, runs, is) refused going = elim (cases_Bool (has_ended new)) [
    | inl over ↦
        let ends = runs.ends going over in
        absurd (not_ending fault refused (subst (λ f. IsFailure f) (one_fault ends.0 fault (sym ends.1 ∙ is)) ends.2))
    | inr still ↦ still
  ]
  refused_goes (Look view) fault sees refused going = elim (cases_Bool (has_ended new)) [
    | inl over ↦ absurd (not_ending fault refused (inr (same_error fault Broken (sees.ends going over))))
    | inr still ↦ still
  ]
  refused_goes (Refused why) fault kept refused going = subst (λ p. IsSessionOpen p) (sym kept.0) going

  -- the machine refuses the commands, and those before that are done
  pub refused_at : (commands : List Command) (fault : Fault) (run : Run) → RunsList contents old new out_old out_new commands run → run.end ≡ Some fault → is_refusal fault ≡ true
      → IsSessionOpen old → HasCleanDisk (state_of new) → (world : World) → ShowsProject old world
      → (accepted_commands world commands ≡ take run.acknowledged commands) × (first_refusal world commands ≡ Some fault)
  refused_at commands fault run runs is refused going clean world shows =
      let driven = runs.answers.3 going clean world shows in
      elim (driven.end fault is) [
        | inl (last, there, why) ↦ elim why [
          | inl told ↦ accepted_up_to world commands runs.answers.0 run.acknowledged last fault driven.answered there told
          | inr store ↦ absurd (not_store fault refused store)
        ]
        | inr output ↦ absurd (not_output fault refused output.0)
      ]

  -- a view is refused over an older version, and nothing is touched
  pub view_refused : (view : View) (fault : Fault) → Sees contents old new out_old out_new view (as_result (Some fault)) → is_refusal fault ≡ true → IsSessionOpen old
      → (version : ℕ) × (older_version old ≡ Some version) × (fault ≡ OldSchema version) × (new ≡ old) × (contents out_new ≡ contents out_old)
  view_refused view fault sees refused going = by_version (older_version old) refl
    where
      by_version : (older : Option ℕ) → older_version old ≡ older
          → (version : ℕ) × (older_version old ≡ Some version) × (fault ≡ OldSchema version) × (new ≡ old) × (contents out_new ≡ contents out_old)
      by_version None is = absurd (not_of_view fault refused (sees.fault going is))
      by_version (Some version) is =
          let told = subst (λ o. IfSome o (λ v. RefusesWith contents old new out_old out_new (as_result (Some fault)) (OldSchema v))) is (sees.refused.older going) in
          (version, is, same_error fault (OldSchema version) told.0, told.1, told.2)

  -- the refusal is that of the machine
  pub refused_as : (action : Action) (fault : Fault) → Performs contents old new out_old out_new action (Some fault) → is_refusal fault ≡ true
      → IsSessionOpen old → HasCleanDisk (state_of new) → (world : World) → ShowsProject old world → refusal_of world action ≡ Some fault
  refused_as (Commands commands) fault (run, runs, is) refused going clean world shows = (refused_at commands fault run runs is refused going clean world shows).1
  refused_as (Look view) fault sees refused going clean world shows =
      let (version, older, told, same, unwritten) = view_refused view fault sees refused going in
      ap (λ o. option_map OldSchema o) (sym shows.version ∙ older) ∙ ap (λ f. Some f) (sym told)
  refused_as (Refused why) fault kept refused going clean world shows = sym kept.2

  -- what it did is what the machine accepts
  pub refused_done : (action : Action) (fault : Fault) → Performs contents old new out_old out_new action (Some fault) → is_refusal fault ≡ true
      → IsSessionOpen old → HasCleanDisk (state_of new) → (world : World) → ShowsProject old world
      → (answers : List Answer) × AnswerAll world (commands_by Tried world action) answers × ShowsProject new (world_of world (commands_by Tried world action))
  refused_done (Commands commands) fault (run, runs, is) refused going clean world shows =
      let driven = runs.answers.3 going clean world shows in
      let are = (refused_at commands fault run runs is refused going clean world shows).0 in (
        runs.answers.0,
        subst (λ cs. AnswerAll world cs runs.answers.0) (sym are) driven.answered,
        subst (λ cs. ShowsProject new (world_of world cs)) (sym are) driven.shows,
      )
  refused_done (Look view) fault sees refused going clean world shows =
      let (version, older, told, same, unwritten) = view_refused view fault sees refused going in
      ([], tt, subst (λ p. ShowsProject p world) (sym same) shows)
  refused_done (Refused why) fault kept refused going clean world shows = ([], tt, subst (λ p. ShowsProject p world) (sym kept.0) shows)

  pub refused_over : (action : Action) (fault : Fault) → Performs contents old new out_old out_new action (Some fault) → is_refusal fault ≡ true
      → IsSessionOpen old → HasCleanDisk (state_of new) → (world : World) → IsOver old world → IsOver new (world_of world (commands_by Tried world action))
  refused_over (Commands commands) fault (run, runs, is) refused going clean world over =
      let shows = over_shows old world over in
      let are = (refused_at commands fault run runs is refused going clean world shows).0 in
      let driven = runs.answers.2 going clean world over in
      let done = refused_done (Commands commands) fault (run, runs, is) refused going clean world shows in
      record {
        is_project = done.2.is_project;
        version = done.2.version;
        goes = subst (λ cs. GoesOn (state_of new) (world_of world cs)) (sym are) (driven.goes (refused_goes (Commands commands) fault (run, runs, is) refused going));
      }
  refused_over (Look view) fault sees refused going clean world over =
      let (version, older, told, same, unwritten) = view_refused view fault sees refused going in
      subst (λ p. IsOver p world) (sym same) over
  refused_over (Refused why) fault kept refused going clean world over = subst (λ p. IsOver p world) (sym kept.0) over

  -- ---- an action that was not refused

  -- what the machine accepts is all
  pub all_accepted : (action : Action) → Performs contents old new out_old out_new action None
      → IsSessionOpen old → HasCleanDisk (state_of new) → (world : World) → ShowsProject old world
      → (commands_by Tried world action ≡ commands_of_action action) × (refusal_of world action ≡ None)
  all_accepted (Commands commands) does going clean world shows =
      let did = one_done contents old new out_old out_new (Commands commands) does going clean world shows in
      accepted_all world commands did.0 did.1
  all_accepted (Look view) sees going clean world shows =
      let present = shown_present contents old new out_old out_new view sees going world shows in
      (refl, ap (λ o. option_map OldSchema o) (sym (present_none world.version present)))
  all_accepted (Refused why) kept going clean world shows = absurd (let no = kept.2 in cc)

-- ---- an action that is done in one of the ways

module _ {S W : Type 0} {store : Ghosts S} (contents : W → Option (List ℕ)) (old new : Project S store) where
  tried_goes : (out_old out_done out_new : W) (action : Action) (told : Option Fault) → Performs contents old new out_old out_done action told → EndsTried contents out_done out_new told None
      → IsSessionOpen old → IsSessionOpen new
  tried_goes out_old out_done out_new action None does ends going = one_goes contents old new out_old out_done action does going
  tried_goes out_old out_done out_new action (Some fault) does (inl (refused, passed)) going = refused_goes contents old new out_old out_done action fault does refused going
  tried_goes out_old out_done out_new action (Some fault) does (inr (other, no_stop, is, same)) going = never_told fault is

  tried_done : (out_old out_done out_new : W) (action : Action) (told : Option Fault) → Performs contents old new out_old out_done action told → EndsTried contents out_done out_new told None
      → IsSessionOpen old → HasCleanDisk (state_of new) → (world : World) → ShowsProject old world
      → (answers : List Answer) × AnswerAll world (commands_by Tried world action) answers × ShowsProject new (world_of world (commands_by Tried world action))
  tried_done out_old out_done out_new action None does ends going clean world shows =
      let did = one_done contents old new out_old out_done action does going clean world shows in
      let all = (all_accepted contents old new out_old out_done action does going clean world shows).0 in (
        did.0,
        subst (λ cs. AnswerAll world cs did.0) (sym all) did.1,
        subst (λ cs. ShowsProject new (world_of world cs)) (sym all) did.2,
      )
  tried_done out_old out_done out_new action (Some fault) does (inl (refused, passed)) going clean world shows = refused_done contents old new out_old out_done action fault does refused going clean world shows
  tried_done out_old out_done out_new action (Some fault) does (inr (other, no_stop, is, same)) going clean world shows = never_told fault is

  tried_over : (out_old out_done out_new : W) (action : Action) (told : Option Fault) → Performs contents old new out_old out_done action told → EndsTried contents out_done out_new told None
      → IsSessionOpen old → HasCleanDisk (state_of new) → (world : World) → IsOver old world → IsOver new (world_of world (commands_by Tried world action))
  tried_over out_old out_done out_new action None does ends going clean world over =
      let all = (all_accepted contents old new out_old out_done action does going clean world (over_shows old world over)).0 in
      subst (λ cs. IsOver new (world_of world cs)) (sym all) (one_over contents old new out_old out_done action does going clean world over)
  tried_over out_old out_done out_new action (Some fault) does (inl (refused, passed)) going clean world over = refused_over contents old new out_old out_done action fault does refused going clean world over
  tried_over out_old out_done out_new action (Some fault) does (inr (other, no_stop, is, same)) going clean world over = never_told fault is

  by_goes : (out_old out_new : W) (mode : Mode) (action : Action) → PerformsBy contents mode old new out_old out_new action None → IsSessionOpen old → IsSessionOpen new
  by_goes out_old out_new Once action does = one_goes contents old new out_old out_new action does
  by_goes out_old out_new Repeated action does = one_goes contents old new out_old out_new action does
  by_goes out_old out_new Tried action tries = tried_goes out_old tries.out_done out_new action tries.told tries.does tries.ends

  by_done : (out_old out_new : W) (mode : Mode) (action : Action) → PerformsBy contents mode old new out_old out_new action None
      → IsSessionOpen old → HasCleanDisk (state_of new) → (world : World) → ShowsProject old world
      → (answers : List Answer) × AnswerAll world (commands_by mode world action) answers × ShowsProject new (world_of world (commands_by mode world action))
  by_done out_old out_new Once action does = one_done contents old new out_old out_new action does
  by_done out_old out_new Repeated action does = one_done contents old new out_old out_new action does
  by_done out_old out_new Tried action tries = tried_done out_old tries.out_done out_new action tries.told tries.does tries.ends

  by_over : (out_old out_new : W) (mode : Mode) (action : Action) → PerformsBy contents mode old new out_old out_new action None
      → IsSessionOpen old → HasCleanDisk (state_of new) → (world : World) → IsOver old world → IsOver new (world_of world (commands_by mode world action))
  by_over out_old out_new Once action does = one_over contents old new out_old out_new action does
  by_over out_old out_new Repeated action does = one_over contents old new out_old out_new action does
  by_over out_old out_new Tried action tries = tried_over out_old tries.out_done out_new action tries.told tries.does tries.ends

-- ---- an action that the store stopped

-- of no commands none are done
none_taken : (count : ℕ) → take {A = Command} count [] ≡ []
none_taken zero = refl
none_taken (suc count) = refl

stop_ends_nothing : IsFailure NotAProject → ⊥
stop_ends_nothing (inl is) = absurd (cc)
stop_ends_nothing (inr is) = absurd (cc)

module _ {S W : Type 0} {store : Ghosts S} (contents : W → Option (List ℕ)) (old new : Project S store) (out_old out_new : W) where
  action_goes : (action : Action) (count : ℕ) → StopsAction contents old new out_old out_new action count → IsSessionOpen old → IsSessionOpen new
  action_goes (Commands commands) count runs going = elim (cases_Bool (has_ended new)) [
    | inl over ↦
        let ends = runs.ends going over in
        absurd (stop_ends_nothing (subst (λ f. IsFailure f) (one_fault ends.0 NotAProject (sym ends.1)) ends.2))
    | inr still ↦ still
  ]
  action_goes (Look view) count (sees, long) going = elim (cases_Bool (has_ended new)) [
    | inl over ↦ absurd (stop_ends_nothing (inr (same_error NotAProject Broken (sees.ends going over))))
    | inr still ↦ still
  ]
  action_goes (Refused why) count kept going = subst (λ p. IsSessionOpen p) (sym kept.0) going

  action_done : (action : Action) (count : ℕ) → StopsAction contents old new out_old out_new action count → IsSessionOpen old → HasCleanDisk (state_of new) → (world : World) → ShowsProject old world
      → (answers : List Answer) × AnswerAll world (take count (commands_of_action action)) answers × ShowsProject new (world_of world (take count (commands_of_action action)))
  action_done (Commands commands) count runs going clean world shows =
      let driven = runs.answers.3 going clean world shows in
      (runs.answers.0, driven.answered, driven.shows)
  action_done (Look view) count (sees, long) going clean world shows =
      subst (λ cs. (answers : List Answer) × AnswerAll world cs answers × ShowsProject new (world_of world cs)) (sym (none_taken count))
      ([], tt, seen_shows contents old new out_old out_new view (Some NotAProject) sees clean world shows)
  action_done (Refused why) count kept going clean world shows =
      subst (λ cs. (answers : List Answer) × AnswerAll world cs answers × ShowsProject new (world_of world cs)) (sym (none_taken count))
      ([], tt, subst (λ p. ShowsProject p world) (sym kept.0) shows)

  action_over : (action : Action) (count : ℕ) → StopsAction contents old new out_old out_new action count → IsSessionOpen old → HasCleanDisk (state_of new) → (world : World) → IsOver old world
      → IsOver new (world_of world (take count (commands_of_action action)))
  action_over (Commands commands) count runs going clean world over =
      let driven = runs.answers.3 going clean world (over_shows old world over) in
      record { is_project = driven.shows.is_project; version = driven.shows.version; goes = (runs.answers.2 going clean world over).goes (action_goes (Commands commands) count runs going) }
  action_over (Look view) count (sees, long) going clean world over =
      subst (λ cs. IsOver new (world_of world cs)) (sym (none_taken count)) (seen_over contents old new out_old out_new view (Some NotAProject) sees clean world over)
  action_over (Refused why) count kept going clean world over =
      subst (λ cs. IsOver new (world_of world cs)) (sym (none_taken count)) (subst (λ p. IsOver p world) (sym kept.0) over)

  -- it ended with that fault
  action_performs : (action : Action) (count : ℕ) → StopsAction contents old new out_old out_new action count → Performs contents old new out_old out_new action (Some NotAProject)
  action_performs (Commands commands) count runs = (stopped_at count, runs, refl)
  action_performs (Look view) count (sees, long) = sees
  action_performs (Refused why) count kept = kept

module _ {S W : Type 0} {store : Ghosts S} (contents : W → Option (List ℕ)) (old new : Project S store) (out_old out_new : W) (mode : Mode) (action : Action) (count : ℕ) (end : Option Fault)
    (stops : Stops contents old new out_old out_new mode action count end) where
  stop_goes : IsSessionOpen old → IsSessionOpen new
  stop_goes = action_goes contents old new out_old stops.out_done action count stops.does

  pub stop_done : IsSessionOpen old → HasCleanDisk (state_of new) → (world : World) → ShowsProject old world
      → (answers : List Answer) × AnswerAll world (take count (commands_of_action action)) answers × ShowsProject new (world_of world (take count (commands_of_action action)))
  stop_done = action_done contents old new out_old stops.out_done action count stops.does

  pub stop_over : IsSessionOpen old → HasCleanDisk (state_of new) → (world : World) → IsOver old world → IsOver new (world_of world (take count (commands_of_action action)))
  stop_over = action_over contents old new out_old stops.out_done action count stops.does

-- ---- a step as it ran

module _ {S W : Type 0} {store : Ghosts S} (contents : W → Option (List ℕ)) (old new : Project S store) (out_old out_new : W) where
  as_goes : (stop : Option ℕ) (mode : Mode) (action : Action) → PerformsAs contents stop mode old new out_old out_new action None → IsSessionOpen old → IsSessionOpen new
  as_goes None mode action does = by_goes contents old new out_old out_new mode action does
  as_goes (Some count) mode action stops = stop_goes contents old new out_old out_new mode action count None stops

  pub ran_goes : (ran : RanStep) → PerformsRan contents ran old new out_old out_new None → IsSessionOpen old → IsSessionOpen new
  ran_goes ran does = as_goes ran.stop ran.step.mode ran.step.action does

  -- what was done of it, and why that ended
  as_performs : (stop : Option ℕ) (mode : Mode) (action : Action) (end : Option Fault) → PerformsAs contents stop mode old new out_old out_new action end
      → (out_done : W) × (told : Option Fault) × Performs contents old new out_old out_done action told
  as_performs None Once action end does = (out_new, end, does)
  as_performs None Repeated action end does = (out_new, end, does)
  as_performs None Tried action end tries = (tries.out_done, tries.told, tries.does)
  as_performs (Some count) mode action end stops =
      (stops.out_done, Some NotAProject, action_performs contents old new out_old stops.out_done action count stops.does)

  pub ran_performs : (ran : RanStep) (end : Option Fault) → PerformsRan contents ran old new out_old out_new end → (out_done : W) × (told : Option Fault) × Performs contents old new out_old out_done ran.step.action told
  ran_performs ran end does = as_performs ran.stop ran.step.mode ran.step.action end does

  pub ran_clean : (ran : RanStep) (end : Option Fault) → PerformsRan contents ran old new out_old out_new end → FaultsOnlyGrow (state_of old) (state_of new)
  ran_clean ran end does = let (out_done, told, did) = ran_performs ran end does in one_clean contents old new out_old out_done ran.step.action told did

  as_done : (stop : Option ℕ) (mode : Mode) (action : Action) → PerformsAs contents stop mode old new out_old out_new action None
      → IsSessionOpen old → HasCleanDisk (state_of new) → (world : World) → ShowsProject old world
      → (answers : List Answer) × AnswerAll world (commands_as stop mode world action) answers × ShowsProject new (world_of world (commands_as stop mode world action))
  as_done None mode action does = by_done contents old new out_old out_new mode action does
  as_done (Some count) mode action stops = stop_done contents old new out_old out_new mode action count None stops

  pub ran_done : (ran : RanStep) → PerformsRan contents ran old new out_old out_new None
      → IsSessionOpen old → HasCleanDisk (state_of new) → (world : World) → ShowsProject old world
      → (answers : List Answer) × AnswerAll world (commands_of_step world ran) answers × ShowsProject new (world_of world (commands_of_step world ran))
  ran_done ran does = as_done ran.stop ran.step.mode ran.step.action does

  as_over : (stop : Option ℕ) (mode : Mode) (action : Action) → PerformsAs contents stop mode old new out_old out_new action None
      → IsSessionOpen old → HasCleanDisk (state_of new) → (world : World) → IsOver old world → IsOver new (world_of world (commands_as stop mode world action))
  as_over None mode action does = by_over contents old new out_old out_new mode action does
  as_over (Some count) mode action stops = stop_over contents old new out_old out_new mode action count None stops

  pub ran_over : (ran : RanStep) → PerformsRan contents ran old new out_old out_new None
      → IsSessionOpen old → HasCleanDisk (state_of new) → (world : World) → IsOver old world → IsOver new (world_of world (commands_of_step world ran))
  ran_over ran does = as_over ran.stop ran.step.mode ran.step.action does

-- ---- a try

module _ {S W : Type 0} {store : Ghosts S} (contents : W → Option (List ℕ)) (old new : Project S store) (out_old out_done out_new : W) (action : Action) (told : Option Fault) (does : Performs contents old new out_old out_done action told) where
  -- an action that was not refused
  pub tries_done : told ≡ None → Tries contents old new out_old out_done action None
  tries_done none = record { told = told; out_done = out_done; does = does; ends = subst (λ t. EndsTried contents out_done out_done t None) (sym none) (refl, refl) }

  -- one that was, and whose line went out or not
  pub tries_refused : (fault : Fault) (end : Option Fault) → told ≡ Some fault → is_refusal fault ≡ true → PassesOver contents out_done out_new fault end
      → Tries contents old new out_old out_new action end
  tries_refused fault end is refused passed = record { told = told; out_done = out_done; does = does; ends = subst (λ t. EndsTried contents out_done out_new t end) (sym is) (inl (refused, passed)) }

  -- one that another fault ended
  pub tries_ended : (fault : Fault) → told ≡ Some fault → is_refusal fault ≡ false → fault ≢ NotAProject → Tries contents old new out_old out_done action (Some fault)
  tries_ended fault is other no_stop = record { told = told; out_done = out_done; does = does; ends = subst (λ t. EndsTried contents out_done out_done t (Some fault)) (sym is) (inr (other, no_stop, refl, refl)) }

module _ {S W : Type 0} {store : Ghosts S} (contents : W → Option (List ℕ)) (old new : Project S store) (out_old out_done : W) where
  -- where the store stopped it
  stopped_somewhere : (action : Action) → Performs contents old new out_old out_done action (Some NotAProject) → (count : ℕ) × StopsAction contents old new out_old out_done action count
  stopped_somewhere (Commands commands) (run, runs, is) =
      (run.acknowledged, subst (λ e. RunsList contents old new out_old out_done commands (record { acknowledged = run.acknowledged; end = e })) is runs)
  stopped_somewhere (Look view) sees = (growth (contents out_old) (contents out_done), (sees, refl))
  stopped_somewhere (Refused why) kept = (0, kept)

  pub action_stopped : (out_new : W) (action : Action) (end : Option Fault) → Performs contents old new out_old out_done action (Some NotAProject) → PassesOver contents out_done out_new NotAProject end
      → Attempts contents old new out_old out_new action end
  action_stopped out_new action end does passed =
      let (count, stops) = stopped_somewhere action does in
      (Some count, record { tried = refl; out_done = out_done; does = stops; passed = passed })
