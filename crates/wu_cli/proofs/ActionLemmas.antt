-- What is done for one action, and the machine over lists of commands.
use Rattle.std.proofs.Common.{◌≡◌, inl, inr, ℕ, zero, suc, ◌+◌, ◌≤◌, Bool, false, IfSome, List, [], ◌∷◌, ◌++◌, length, map, take, Option, Some, None, refl, sym, ap, subst, ◌∙◌, arith, length-append}
use Rattle.std.proofs.Math.Seq.{take-append-add, take-length}
use Rattle.std.proofs.lemmas.List.{map-append, take-append-le}
use Rattle.std.proofs.lemmas.Bool.{cases_Bool}
use Rattle.std.specs.Prelude.{slice_get}
use Rattle.sqlite.specs.State.{State, HasCleanDisk}
use Rattle.sqlite_trees.specs.declared.store.Store.{Ghosts}
use Rattle.wu_core.specs.World.{World}
use Rattle.wu_core.specs.declared.fault.Fault.{Fault}
use Rattle.wu_core.specs.declared.fault.Fault.TheVariants.{OldSchema}
use Rattle.wu_drive.specs.declared.runs.Run.{Run}
use Rattle.wu_drive.specs.Driving.{AnswerAll, Drives, world_after}
use Rattle.wu_drive.proofs.DrivingLemmas.{same_command}
use Rattle.wu_machine.specs.declared.command.Answer.{Answer}
use Rattle.wu_machine.specs.declared.command.Command.{Command}
use Rattle.wu_passes.specs.declared.project.Project.{Project}
use Rattle.wu_machine.specs.Machine.{fold_steps, IsUpToDate, step}
use Rattle.wu_machine.specs.declared.view.View.{View}
use Rattle.wu_report.specs.Seeing.{Sees}
use Rattle.wu_report.specs.Views.{RefusesWith}
use Rattle.wu_machine.specs.Commands.{request_of}
use Rattle.wu_machine.specs.Sound.{IsProject}
use Rattle.wu_machine.proofs.Versions.{up_to_date}
use Rattle.wu_passes.proofs.SessionLemmas.{none_older, over_shows}
use Rattle.wu_passes.proofs.StandingLemmas.{shows_back}
use Rattle.wu_passes.specs.Projects.{IsOver, IsSessionOpen, has_ended, older_version, ShowsProject, state_of}
use Rattle.wu_machine.specs.Requests.{Request}
use Rattle.wu_passes.specs.Standing.{GoesOn, HasEnded, FaultsOnlyGrow}
use Rattle.wu_cli.specs.Performing.{as_result, commands_of_action, Performs}
use Rattle.wu_cli.specs.Scripting.{so_far}
use Rattle.wu_arguments.specs.declared.action.Action.{Action}
use Rattle.wu_arguments.specs.declared.action.Action.TheVariants.{Commands, Look, Refused}

-- ---- the machine over two lists

-- the machine's world after commands
abbrev pub world_of : World → List Command → World
world_of world commands = fold_steps world (map request_of commands)

pub fold_both : (world : World) (xs ys : List Request) → fold_steps world (xs ++ ys) ≡ fold_steps (fold_steps world xs) ys
fold_both world [] ys = refl
fold_both world (x ∷ xs) ys = fold_both (step world x) xs ys

pub world_both : (world : World) (xs ys : List Command) → world_of world (xs ++ ys) ≡ world_of (world_of world xs) ys
world_both world xs ys = ap (λ rs. fold_steps world rs) (map-append request_of xs ys) ∙ fold_both world (map request_of xs) (map request_of ys)

pub answer_both : (world : World) (xs ys : List Command) (first more : List Answer) → AnswerAll world xs first → AnswerAll (world_of world xs) ys more → AnswerAll world (xs ++ ys) (first ++ more)
answer_both world [] ys [] more one two = two
answer_both world [] ys (a ∷ first) more one two = absurd one
answer_both world (x ∷ xs) ys [] more one two = absurd one
answer_both world (x ∷ xs) ys (a ∷ first) more one two = (one.0, answer_both (step world (request_of x)) xs ys first more one.1 two)

-- ---- a list within a longer one

get_front : (xs after : List Command) (k : ℕ) (c : Command) → slice_get xs k ≡ Some c → slice_get (xs ++ after) k ≡ Some c
get_front [] after k c there = absurd (cc)
get_front (x ∷ xs) after zero c there = there
get_front (x ∷ xs) after (suc k) c there = get_front xs after k c there

get_behind : (before ys : List Command) (k : ℕ) → slice_get (before ++ ys) (length before + k) ≡ slice_get ys k
get_behind [] ys k = ap (slice_get ys) (omega arith)
get_behind (x ∷ before) ys k =
    let next : length (x ∷ before) + k ≡ suc (length before + k) = omega arith in
    ap (slice_get (x ∷ before ++ ys)) next ∙ get_behind before ys k

pub get_within : (before xs after : List Command) (k : ℕ) (c : Command) → slice_get xs k ≡ Some c → slice_get (before ++ (xs ++ after)) (length before + k) ≡ Some c
get_within before xs after k c there = get_behind before (xs ++ after) k ∙ get_front xs after k c there

pub take_within : (before xs after : List Command) (k : ℕ) → k ≤ length xs → take (length before + k) (before ++ (xs ++ after)) ≡ before ++ take k xs
take_within before xs after k low = take-append-add before (xs ++ after) k ∙ ap (λ l. before ++ l) (take-append-le k xs after low)

-- what a list of commands did after others were done, of all of them
module _ (world : World) (before xs after : List Command) (done answers : List Answer) (run : Run) (is_cut : Bool) (new : State)
    (first : AnswerAll world before done) (drives : Drives (world_of world before) xs answers run is_cut new) where
  pub next_within : world_after world (before ++ (xs ++ after)) (length before + run.acknowledged) ≡ world_after (world_of world before) xs run.acknowledged
  next_within = ap (λ cs. world_of world cs) (take_within before xs after run.acknowledged drives.within) ∙ world_both world before (take run.acknowledged xs)

  pub drives_within : Drives world (before ++ (xs ++ after)) (done ++ answers) (so_far (length before + run.acknowledged)) is_cut new
  drives_within = record {
    within = omega (arith, length-append before (xs ++ after), length-append xs after, drives.within);
    answered = subst (λ cs. AnswerAll world cs (done ++ answers)) (sym (take_within before xs after run.acknowledged drives.within))
        (answer_both world before (take run.acknowledged xs) done answers first drives.answered);
    end = λ fault told. absurd (cc);
    goes = λ going. subst (λ w. GoesOn new w) (sym next_within) (drives.goes going);
    ended = λ ended.
        let at = drives.ended ended in
        (at.0, get_within before xs after run.acknowledged at.0 at.1, subst (λ w. HasEnded new w (request_of at.0)) (sym next_within) at.2);
    project = subst (λ w. IsProject w) (sym next_within) drives.project;
    cut_project = λ ended cut there.
        let at = drives.ended ended in
        let same : at.0 ≡ cut = same_command at.0 cut (sym (get_within before xs after run.acknowledged at.0 at.1) ∙ there) in
        subst (λ w. IsProject (step w (request_of cut))) (sym next_within) (drives.cut_project ended cut (at.1 ∙ ap (λ c. Some c) same));
  }

-- the end of a run does not matter to what it did
pub so_far_drives : (world : World) (commands : List Command) (answers : List Answer) (run : Run) (is_cut : Bool) (new : State)
    → Drives world commands answers run is_cut new → Drives world commands answers (so_far run.acknowledged) is_cut new
so_far_drives world commands answers run is_cut new drives = record {
  within = drives.within;
  answered = drives.answered;
  end = λ fault told. absurd (cc);
  goes = drives.goes;
  ended = drives.ended;
  project = drives.project;
  cut_project = drives.cut_project;
}

-- the world after all of them
pub after_all : (world : World) (commands : List Command) → world_of world commands ≡ world_after world commands (length commands)
after_all world commands = ap (λ cs. world_of world cs) (sym (take-length commands))

-- all commands were done
pub all_drives : (world : World) (commands : List Command) (answers : List Answer) (new : State)
    → AnswerAll world commands answers → GoesOn new (world_of world commands) → IsProject (world_of world commands)
    → Drives world commands answers (so_far (length commands)) false new
all_drives world commands answers new all goes project =
    let whole : take (length commands) commands ≡ commands = take-length commands in
    record {
      within = omega arith;
      answered = subst (λ cs. AnswerAll world cs answers) (sym whole) all;
      end = λ fault told. absurd (cc);
      goes = λ still. subst (λ cs. GoesOn new (world_of world cs)) (sym whole) goes;
      ended = λ ended. absurd (cc);
      project = subst (λ cs. IsProject (world_of world cs)) (sym whole) project;
      cut_project = λ ended cut there. absurd (cc);
    }

-- ---- one action

module _ {S W : Type 0} {store : Ghosts S} (contents : W → Option (List ℕ)) (old new : Project S store) (out_old out_new : W) where
  pub one_goes : (action : Action) → Performs contents old new out_old out_new action None → IsSessionOpen old → IsSessionOpen new
  one_goes (Commands commands) (run, runs, end) going = elim (cases_Bool (has_ended new)) [
    | inl over ↦
        let ends = runs.ends going over in
        absurd (let no : ◌≡◌ {A = Option Fault} None (Some ends.0) = sym end ∙ ends.1 in cc)
    | inr still ↦ still
  ]
  one_goes (Look view) sees going = elim (cases_Bool (has_ended new)) [
    | inl over ↦ absurd (let no = sees.ends going over in cc)
    | inr still ↦ still
  ]
  one_goes (Refused why) kept going = absurd (let no = kept.2 in cc)

  pub one_clean : (action : Action) (end : Option Fault) → Performs contents old new out_old out_new action end → FaultsOnlyGrow (state_of old) (state_of new)
  one_clean (Commands commands) end (run, runs, is) = runs.clean
  one_clean (Look view) end sees = sees.clean
  one_clean (Refused why) end kept = subst (λ p. FaultsOnlyGrow (state_of old) (state_of p)) (sym kept.0) (omega arith)

  shown_none : (older : Option ℕ) → older_version old ≡ older → IfSome older (λ version. RefusesWith contents old new out_old out_new (as_result None) (OldSchema version)) → older_version old ≡ None
  shown_none None is refused = is
  shown_none (Some version) is refused = absurd (let no = refused.0 in cc)

  -- a view is shown of a world of the present version alone
  pub shown_present : (view : View) → Sees contents old new out_old out_new view (as_result None) → IsSessionOpen old → (world : World) → ShowsProject old world → IsUpToDate world
  shown_present view sees going world shows =
      let none = shown_none (older_version old) refl (sees.refused.older going) in
      up_to_date world shows.is_project (none_older world.version (sym none ∙ shows.version))

  -- a view leaves the world as it is, whatever ends it
  pub seen_shows : (view : View) (end : Option Fault) → Sees contents old new out_old out_new view (as_result end) → HasCleanDisk (state_of new) → (world : World) → ShowsProject old world → ShowsProject new world
  seen_shows view end sees clean world shows =
      record { is_project = shows.is_project; version = sees.version ∙ shows.version; shows = shows_back (state_of old) (state_of new) world (sees.reads.back clean) shows.shows }

  pub seen_over : (view : View) (end : Option Fault) → Sees contents old new out_old out_new view (as_result end) → HasCleanDisk (state_of new) → (world : World) → IsOver old world → IsOver new world
  seen_over view end sees clean world over = record { is_project = over.is_project; version = sees.version ∙ over.version; goes = sees.goes clean world over.goes }

  -- and all of them, where it ends without a fault
  pub one_done : (action : Action) → Performs contents old new out_old out_new action None
      → IsSessionOpen old → HasCleanDisk (state_of new) → (world : World) → ShowsProject old world
      → (answers : List Answer) × AnswerAll world (commands_of_action action) answers × ShowsProject new (world_of world (commands_of_action action))
  one_done (Commands commands) (run, runs, end) going clean world shows =
      let all : take run.acknowledged commands ≡ commands = ap (λ k. take k commands) (runs.all end) ∙ take-length commands in
      let drives = runs.answers.3 going clean world shows in (
        runs.answers.0,
        subst (λ cs. AnswerAll world cs runs.answers.0) all drives.answered,
        subst (λ cs. ShowsProject new (world_of world cs)) all drives.shows,
      )
  one_done (Look view) sees going clean world shows = ([], tt, seen_shows view None sees clean world shows)
  one_done (Refused why) kept going clean world shows = absurd (let no = kept.2 in cc)

  -- where a stop could leave that world alone, it then leaves the one behind alone
  pub one_over : (action : Action) → Performs contents old new out_old out_new action None
      → IsSessionOpen old → HasCleanDisk (state_of new) → (world : World) → IsOver old world → IsOver new (world_of world (commands_of_action action))
  one_over (Commands commands) (run, runs, end) going clean world over =
      let all : take run.acknowledged commands ≡ commands = ap (λ k. take k commands) (runs.all end) ∙ take-length commands in
      let drives = runs.answers.2 going clean world over in
      let done = one_done (Commands commands) (run, runs, end) going clean world (over_shows old world over) in
      record {
        is_project = done.2.is_project;
        version = done.2.version;
        goes = subst (λ cs. GoesOn (state_of new) (world_of world cs)) all (drives.goes (one_goes (Commands commands) (run, runs, end) going));
      }
  one_over (Look view) sees going clean world over = seen_over view None sees clean world over
  one_over (Refused why) kept going clean world over = absurd (let no = kept.2 in cc)
