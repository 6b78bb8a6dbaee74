-- From command to command of a list.
use Rattle.std.proofs.Common.{is_some, if◌then◌else◌, IfSome, ◌≡◌, ◌⊎◌, inl, inr, ℕ, ◌+◌, ◌<◌, ◌≤◌, Bool, true, false, List, [], ◌∷◌, ◌++◌, length, get_or, map, take, Option, Some, None, Ok, Err, refl, sym, ap, subst, ◌∙◌, arith}
use Rattle.std.proofs.lemmas.List.{map-append, take_more}
use Rattle.std.proofs.lemmas.Option.{slice_get-get_or}
use Rattle.std.specs.Prelude.{slice_get}
use Rattle.std.specs.Prelude.{IsTrue, MatchResult, OnOk, Result}
use Rattle.std.proofs.lemmas.Bool.{cases_Bool}
use Rattle.sqlite.specs.State.{HasCleanDisk}
use Rattle.sqlite.specs.Store.{Ghosts}
use Rattle.wu_schema.specs.Faults.{IsFailure}
use Rattle.wu_core.specs.declared.fault.Fault.{Fault}
use Rattle.wu_core.specs.declared.fault.Fault.TheVariants.{BadLimit, Ended, OldSchema, Output}
use Rattle.std.proofs.lemmas.List.Elements.{All-nil}
use Rattle.wu_core.specs.Classes.{IsClassed}
use Rattle.wu_core.specs.World.{Import, World, empty_world}
use Rattle.wu_core.specs.Storable.{AreVerdicts, IsStorable}
use Rattle.wu_machine.specs.declared.command.Answer.{Answer}
use Rattle.wu_machine.specs.declared.command.Command.{Command}
use Rattle.wu_drive.specs.declared.runs.Run.{Run}
use Rattle.wu_drive.specs.Driving.{AnswerAll, Drives, DrivesFrom, MakeNothing, NotDone, world_after}
use Rattle.wu_machine.specs.Machine.{fold_steps, has_right_limits, is_upgrade, MakesNothing, reply, step}
use Rattle.wu_machine.specs.Commands.{request_of, reply_of_answer}
use Rattle.wu_plans.specs.Planning.{IsPresentProject}
use Rattle.wu_store.specs.Loading.{IsStoreFault}
use Rattle.wu_passes.specs.Adopting.{KeepsAll}
use Rattle.wu_passes.specs.Projects.{AnswersEnded, Broke, has_ended, IsOpen, IsOver, IsPlanned, IsSessionOpen, older_version, RefusesEarly, RunsOver, ServesRight, ShowsProject, state_of}
use Rattle.wu_passes.proofs.SessionLemmas.{over_shows, some_right}
use Rattle.wu_machine.specs.Laws.{KeepsProjects}
use Rattle.wu_passes.specs.declared.project.Project.{Project}
use Rattle.wu_machine.specs.Requests.{Request}
use Rattle.wu_machine.specs.Sound.{IsProject}
use Rattle.wu_passes.specs.Standing.{RefinesAfterFault, FailureCause}

pub fold_more : (world : World) (requests : List Request) (one : Request) → fold_steps world (requests ++ one ∷ []) ≡ step (fold_steps world requests) one
fold_more world [] one = refl
fold_more world (first ∷ more) one = fold_more (step world first) more one

answer_more : (world : World) (commands : List Command) (answers : List Answer) (command : Command) (answer : Answer) → AnswerAll world commands answers
    → reply (fold_steps world (map request_of commands)) (request_of command) ≡ Ok (reply_of_answer answer) → AnswerAll world (commands ++ command ∷ []) (answers ++ answer ∷ [])
answer_more world [] [] command answer all is = (is, tt)
answer_more world [] (a ∷ answers) command answer all is = absurd all
answer_more world (c ∷ commands) [] command answer all is = absurd all
answer_more world (c ∷ commands) (a ∷ answers) command answer all is = (all.0, answer_more (step world (request_of c)) commands answers command answer all.1 is)

next_world : (world : World) (commands : List Command) (i : ℕ) (command d : Command) → i < length commands → get_or commands i d ≡ command
    → world_after world commands (i + 1) ≡ step (world_after world commands i) (request_of command)
next_world world commands i command d low there =
    ap (λ cs. fold_steps world (map request_of cs)) (take_more commands i d low ∙ ap (λ c. take i commands ++ c ∷ []) there)
    ∙ ap (λ rs. fold_steps world rs) (map-append request_of (take i commands) (command ∷ [])) ∙ fold_more world (map request_of (take i commands)) (request_of command)

-- a fresh project is one
pub empty_project : IsPresentProject empty_world
empty_project = (
  refl,
  record {
    first = omega arith;
    known = omega arith;
    above = tt;
    next = (omega arith, omega arith);
    verdicts = All-nil (λ (i : Import). AreVerdicts i.kind i.verdicts);
    storable = All-nil IsStorable;
    names = λ i j d order low. absurd (omega (arith, low));
    classed = All-nil IsClassed;
    classes_in_time = λ low. absurd (omega (arith, low));
  },
)

pub one_fault : (a b : Fault) → ◌≡◌ {A = Option Fault} (Some a) (Some b) → a ≡ b
one_fault a b same = cc

-- a run that ended early did not end without a fault
pub never_told : {P : Type 0} (fault : Fault) → ◌≡◌ {A = Option Fault} None (Some fault) → P
never_told fault told = absurd (cc)

pub never_whole : {P : Type 0} (fault : Fault) → ◌≡◌ {A = Option Fault} (Some fault) None → P
never_whole fault told = absurd (cc)

there_is : {X : Type 0} (xs : List X) (i : ℕ) (x d : X) → i < length xs → get_or xs i d ≡ x → slice_get xs i ≡ Some x
there_is xs i x d low there = slice_get-get_or xs i d low ∙ ap (λ y. Some y) there

pub same_command : (one other : Command) → ◌≡◌ {A = Option Command} (Some one) (Some other) → one ≡ other
same_command one other same = cc

-- what broke in a part of a call broke in the call
why_from : (Before After : Type 0) → (Before → After) → (is : Bool) (world : World) (request : Request) (fault : Fault) → FailureCause Before is world request fault → FailureCause After is world request fault
why_from Before After from true world request fault (inl (broken, broke)) = inl (broken, from broke)
why_from Before After from true world request fault (inr cut) = inr cut
why_from Before After from false world request fault why = why

-- the disk failed after some commands, or the connection was not open
pub broke_after : {S : Type 0} {g : Ghosts S} (old mid new : Project S g) → (state_of old).faults ≤ (state_of mid).faults → (IsTrue (state_of old).is_open → IsTrue (state_of mid).is_open)
    → Broke mid new → Broke old new
broke_after old mid new rises opened (inl more) = inl (omega (arith, rises, more))
broke_after old mid new rises opened (inr shut) = elim (cases_Bool (state_of old).is_open) [
  | inl was ↦ absurd (let no : true ≡ false = sym (opened was) ∙ shut in cc)
  | inr was ↦ inr was
]

-- the command at this place was not done
pub not_done : (Before After : Type 0) → (Before → After) → (world : World) (commands : List Command) (i : ℕ) (command d : Command) → i < length commands → get_or commands i d ≡ command → (run : Run) → run.acknowledged ≡ i
    → (fault other : Fault) (is : Bool) → run.end ≡ Some other → run.end ≡ Some fault → FailureCause Before is (world_after world commands i) (request_of command) fault → NotDone After world commands run is other
not_done Before After from world commands i command d low there run count fault other is told told_so why =
    let same : fault ≡ other = one_fault fault other (sym told_so ∙ told) in
    let first = why_from Before After from is (world_after world commands i) (request_of command) fault why in
    subst (λ k. NotDone After world commands (record run { acknowledged = k }) is other) (sym count) (command, there_is commands i command d low there, subst (λ f. FailureCause After is (world_after world commands i) (request_of command) f) same first)

-- so it is on the way, after so many commands
pub record IsDriving {S : Type 0} {g : Ghosts S} (world : World) (commands : List Command) (answers : List Answer) (count : ℕ) (new : Project S g) : Type 0 where
  pub going : IsSessionOpen new
  pub answered : AnswerAll world (take count commands) answers
  pub over : IsOver new (world_after world commands count)

-- and so whatever a stop could leave before
pub record IsDrivingFrom {S : Type 0} {g : Ghosts S} (world : World) (commands : List Command) (answers : List Answer) (count : ℕ) (new : Project S g) : Type 0 where
  pub going : IsSessionOpen new
  pub answered : AnswerAll world (take count commands) answers
  pub shows : ShowsProject new (world_after world commands count)

pub driving_none : {S : Type 0} {g : Ghosts S} (world : World) (commands : List Command) (new : Project S g) → IsSessionOpen new → IsOver new world → IsDriving world commands [] 0 new
driving_none world commands new going over = record { going = going; answered = tt; over = over }

pub driving_from_none : {S : Type 0} {g : Ghosts S} (world : World) (commands : List Command) (new : Project S g) → IsSessionOpen new → ShowsProject new world → IsDrivingFrom world commands [] 0 new
driving_from_none world commands new going shows = record { going = going; answered = tt; shows = shows }

module _ {S : Type 0} {g : Ghosts S} (world : World) (commands : List Command) (answers : List Answer) (i : ℕ) (old new : Project S g) (command d : Command) (low : i < length commands) (there : get_or commands i d ≡ command)
    (clean : HasCleanDisk (state_of new)) where
  more_answered : (answer : Answer) → AnswerAll world (take i commands) answers → reply (world_after world commands i) (request_of command) ≡ Ok (reply_of_answer answer) → AnswerAll world (take (i + 1) commands) (answers ++ answer ∷ [])
  more_answered answer so_far answered =
      subst (λ cs. AnswerAll world cs (answers ++ answer ∷ [])) (sym (take_more commands i d low ∙ ap (λ c. take i commands ++ c ∷ []) there))
      (answer_more world (take i commands) answers command answer so_far answered)

  module _ (driving : IsDrivingFrom world commands answers i old) where
    -- one more was done
    pub driving_from_more : (answer : Answer) → RunsOver old new command (Ok answer) → IsSessionOpen new → IsDrivingFrom world commands (answers ++ answer ∷ []) (i + 1) new
    driving_from_more answer runs going = record {
      going = going;
      answered = more_answered answer driving.answered (runs.from clean (world_after world commands i) driving.shows).0;
      shows = subst (λ w. ShowsProject new w) (sym (next_world world commands i command d low there)) (runs.stays clean (world_after world commands i) driving.shows);
    }

    -- it was refused, or cut
    pub drives_from_cut : (fault : Fault) (run : Run) → run.acknowledged ≡ i → run.end ≡ Some fault → RunsOver old new command (Err fault) → DrivesFrom world commands answers run new
    drives_from_cut fault run count end runs = subst (λ k. DrivesFrom world commands answers (record run { acknowledged = k }) new) (sym count) (record {
      answered = driving.answered;
      end = λ other told_so.
          let same : fault ≡ other = one_fault fault other (sym end ∙ told_so) in
          let told = (runs.from clean (world_after world commands i) driving.shows).0 in
          inl (command, there_is commands i command d low there, subst (λ f. (reply (world_after world commands i) (request_of command) ≡ Err f) ⊎ IsStoreFault f) same told);
      shows = runs.stays clean (world_after world commands i) driving.shows;
    })

  module _ (driving : IsDriving world commands answers i old) where
    pub driving_more : (answer : Answer) → RunsOver old new command (Ok answer) → IsDriving world commands (answers ++ answer ∷ []) (i + 1) new
    driving_more answer runs =
        let (answered, going, goes) = runs.goes clean (world_after world commands i) driving.over in
        let stays = runs.stays clean (world_after world commands i) (over_shows old (world_after world commands i) driving.over) in
        record {
          going = going;
          answered = more_answered answer driving.answered answered;
          over = subst (λ w. IsOver new w) (sym (next_world world commands i command d low there)) (record { is_project = stays.is_project; version = stays.version; goes = goes });
        }

    pub drives_cut : KeepsProjects (request_of command) → (fault : Fault) (run : Run) → run.acknowledged ≡ i → run.end ≡ Some fault → RunsOver old new command (Err fault)
        → Drives world commands answers run (has_ended new) (state_of new)
    drives_cut keeps fault run count end runs =
        let (told, stands) = runs.goes clean (world_after world commands i) driving.over in
        let still : IsProject (step (world_after world commands i) (request_of command)) = keeps (world_after world commands i) driving.over.is_project in
        subst (λ k. Drives world commands answers (record run { acknowledged = k }) (has_ended new) (state_of new)) (sym count) (record {
          within = omega (arith, low);
          answered = driving.answered;
          end = λ other told_so.
              let same : fault ≡ other = one_fault fault other (sym end ∙ told_so) in
              inl (command, there_is commands i command d low there, subst (λ f. (reply (world_after world commands i) (request_of command) ≡ Err f) ⊎ IsStoreFault f) same told);
          goes = λ going. subst (λ b. RefinesAfterFault b (state_of new) (world_after world commands i) (request_of command)) going stands;
          ended = λ ended. (command, there_is commands i command d low there, subst (λ b. RefinesAfterFault b (state_of new) (world_after world commands i) (request_of command)) ended stands);
          project = driving.over.is_project;
          cut_project = λ ended cut cut_there. subst (λ c. IsProject (step (world_after world commands i) (request_of c))) (same_command command cut (sym (there_is commands i command d low there) ∙ cut_there)) still;
        })

-- between two commands: the list has ended, or a text was not written
module _ {S : Type 0} {g : Ghosts S} (world : World) (commands : List Command) (answers : List Answer) (i : ℕ) (new : Project S g) (run : Run) (count : run.acknowledged ≡ i) where
  pub drives_so_far : IsDriving world commands answers i new → i ≤ length commands → ((fault : Fault) → run.end ≡ Some fault → (fault ≡ Output) × (1 ≤ i)) → Drives world commands answers run (has_ended new) (state_of new)
  drives_so_far driving within end = subst (λ k. Drives world commands answers (record run { acknowledged = k }) (has_ended new) (state_of new)) (sym count) (record {
    within = within;
    answered = driving.answered;
    end = λ fault told. inr (end fault told);
    goes = λ going. driving.over.goes;
    ended = λ ended. absurd (let no : false ≡ true = sym driving.going ∙ ended in cc);
    project = driving.over.is_project;
    cut_project = λ ended. absurd (let no : false ≡ true = sym driving.going ∙ ended in cc);
  })

  pub drives_from_so_far : IsDrivingFrom world commands answers i new → ((fault : Fault) → run.end ≡ Some fault → (fault ≡ Output) × (1 ≤ i)) → DrivesFrom world commands answers run new
  drives_from_so_far driving end = subst (λ k. DrivesFrom world commands answers (record run { acknowledged = k }) new) (sym count) (record {
    answered = driving.answered;
    end = λ fault told. inr (end fault told);
    shows = driving.shows;
  })

-- ---- whether the connection is open

module _ {S : Type 0} {g : Ghosts S} (old new : Project S g) (command : Command) (result : Result Answer Fault) (serves : ServesRight old new command result) (refuses : RefusesEarly old new command result) where
  -- refused before anything was asked
  abbrev IsRefusedEarly : Type 0
  IsRefusedEarly = (fault : Fault) × (result ≡ Err fault) × (new ≡ old)

  by_session : (older : Option ℕ) → older_version old ≡ older → (up : Bool) → is_upgrade (request_of command) ≡ up → (right : Bool) → has_right_limits (request_of command) ≡ right → IsPlanned old command ⊎ IsRefusedEarly
  by_session older is true up true right = inl (record { present = λ some. up; right = right })
  by_session (Some version) is true up false wrong =
      absurd (let right = some_right (request_of command) (older_version old) (ap (λ b. if b then None else older_version old) up) (ap is_some is) in let no = sym right ∙ wrong in cc)
  by_session (Some version) is false other right at = (let (told, same) = subst (λ (o : Option ℕ). IfSome o (λ v. (result ≡ Err (OldSchema v)) × (new ≡ old))) is (refuses.older other) in inr (OldSchema version, told, same))
  by_session None is up at false wrong = (let (told, same) = refuses.limits is wrong in inr (BadLimit, told, same))
  by_session None is false other true right = inl (record { present = λ some. absurd (let no : false ≡ true = ap is_some (sym is) ∙ some in cc); right = right })

  planned_or_refused : IsPlanned old command ⊎ IsRefusedEarly
  planned_or_refused = by_session (older_version old) refl (is_upgrade (request_of command)) refl (has_right_limits (request_of command)) refl

  -- after a command that was done it is
  pub serves_done : (answer : Answer) → result ≡ Ok answer → IsOpen new
  serves_done answer is clean = elim planned_or_refused [
    | inl planned ↦ subst (λ r. MatchResult r (λ _. IsTrue (state_of new).is_open) (λ fault. IsFailure fault ⊎ IsTrue (state_of new).is_open)) is (serves planned clean)
    | inr (fault, refused, same) ↦ absurd (let no : ◌≡◌ {A = Result Answer Fault} (Ok answer) (Err fault) = sym is ∙ refused in cc)
  ]

  -- after one that was refused it is where it was, but for want of memory or of the disk
  pub serves_or_rests : (fault : Fault) → result ≡ Err fault → IsOpen old → HasCleanDisk (state_of new) → IsFailure fault ⊎ IsTrue (state_of new).is_open
  serves_or_rests fault is was clean = elim planned_or_refused [
    | inl planned ↦ subst (λ r. MatchResult r (λ _. IsTrue (state_of new).is_open) (λ f. IsFailure f ⊎ IsTrue (state_of new).is_open)) is (serves planned clean)
    | inr (early, refused, same) ↦ inr (subst (λ project. IsOpen project) (sym same) was clean)
  ]

-- ---- what makes nothing

nothing_more : (world : World) (commands : List Command) (one : Command) → MakeNothing world (commands ++ one ∷ [])
    → MakeNothing world commands × MakesNothing (fold_steps world (map request_of commands)) (request_of one)
nothing_more world [] one (here, none) = (tt, here)
nothing_more world (first ∷ commands) one (here, more) =
    let (before, last) = nothing_more (step world (request_of first)) commands one more in
    ((here, before), last)

-- the commands up to a place make nothing, and so does the one there
pub nothing_next : (world : World) (commands : List Command) (i : ℕ) (command d : Command) → i < length commands → get_or commands i d ≡ command → MakeNothing world (take (i + 1) commands)
    → MakeNothing world (take i commands) × MakesNothing (world_after world commands i) (request_of command)
nothing_next world commands i command d low there none =
    nothing_more world (take i commands) command (subst (λ cs. MakeNothing world cs) (take_more commands i d low ∙ ap (λ c. take i commands ++ c ∷ []) there) none)

pub ok_holds : {T E : Type 0} (r : Result T E) (x : T) (P : Type 0) → r ≡ Ok x → OnOk r P → P
ok_holds (Ok y) x P is holds = holds
ok_holds (Err e) x P is holds = absurd (cc)

-- before the first command was done the project is the one from before
pub leaves_first : {S : Type 0} {store : Ghosts S} (old mid new : Project S store) (fault : Fault) → mid ≡ old → IsFailure fault ⊎ KeepsAll (state_of mid) (state_of new)
    → IsFailure fault ⊎ KeepsAll (state_of old) (state_of new)
leaves_first old mid new fault same it = subst (λ p. IsFailure fault ⊎ KeepsAll (state_of p) (state_of new)) same it

-- over a session that had ended the first command is told so
pub ended_first : {S W : Type 0} {store : Ghosts S} (old mid new : Project S store) (out_old out_mid : W) (count : ℕ) (fault : Fault) (result : Result Answer Fault)
    → (count ≡ 0) × (mid ≡ old) × (out_mid ≡ out_old) → AnswersEnded mid new result → result ≡ Err fault
    → (new ≡ old) × (out_mid ≡ out_old) × (count ≡ 0) × (fault ≡ Ended)
ended_first old mid new out_old out_mid count fault result (none, same, unwritten) (told, still) is =
    (still ∙ same, unwritten, none, (let both : ◌≡◌ {A = Result Answer Fault} (Err fault) (Err Ended) = sym is ∙ told in cc))
