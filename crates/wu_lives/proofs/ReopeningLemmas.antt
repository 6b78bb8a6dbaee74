-- What is found where the two files are opened again after a stop.
use Rattle.std.proofs.Common.{◌≡◌, ◌⊎◌, ℕ, zero, suc, Option, ◌+◌, ◌<◌, ◌≤◌, true, false, Bool, List, [], ◌∷◌, ◌++◌, length, map, take, get_or, Vec, Global, Some, refl, sym, ap, subst, ◌∙◌, inl, inr, arith, length-append}
use Rattle.std.proofs.Math.Logic.{∥∥₁_map}
use Rattle.std.proofs.lemmas.List.{map-append, take_more}
use Rattle.std.proofs.lemmas.Option.{get_or_from_slice_get, slice_get_within}
use Rattle.std.specs.Prelude.{slice_get, ⊤}
use Rattle.sqlite.specs.State.{State}
use Rattle.sqlite.specs.Tree.{Trees}
use Rattle.wu_core.specs.World.{World}
use Rattle.wu_passes.specs.Committing.{FoundAs}
use Rattle.wu_drive.specs.Driving.{AnswerAll, Drives, EndsBy, EndsEarly, world_after}
use Rattle.wu_machine.specs.Machine.{fold_steps, step}
use Rattle.wu_machine.specs.Commands.{request_of}
use Rattle.wu_machine.specs.Sound.{IsProject}
use Rattle.wu_passes.specs.Projects.{IsOfItsVersion, IsOver, state_of}
use Rattle.wu_passes.specs.declared.project.Project.{Project}
use Rattle.sqlite_trees.specs.declared.store.Store as Store
use Rattle.wu_passes.specs.Standing.{GoesOn, IsFailure}
use Rattle.wu_machine.specs.declared.command.Answer.{Answer}
use Rattle.wu_machine.specs.declared.command.Command.{Command}
use Rattle.wu_drive.specs.declared.runs.Run.{Run}
use Rattle.wu_lives.specs.Lives.{AreOf, AreSessionsOf, commands_of, EachDoesAll, EndEach, HasLived, IsSessionOf, Transcript, WritesTold}
use Rattle.wu_lives.specs.Reopening.{DoesAll, HoldsBeginning, IsKept}
use Rattle.wu_stops.specs.Stopping.{IsCommitted, IsReopened}
use Rattle.wu_stops.proofs.StoppingLemmas.{goes_again}
use Rattle.wu_machine.specs.Sessions.{Lived, world_accepted, world_lived, world_of_life}
use Rattle.wu_drive.specs.Driving.{session_of}
use Rattle.wu_drive.specs.Writing.{WritesAnswers}
use Rattle.wu_drive.proofs.LifeLemmas.{life_more}
use Rattle.std.proofs.lemmas.Bool.{cases_eq}
use Rattle.wu_drive.proofs.DrivingLemmas.{fold_more}

pub next_world : (world : World) (commands : List Command) (i : ℕ) (command : Command) → slice_get commands i ≡ Some command
    → world_after world commands (i + 1) ≡ step (world_after world commands i) (request_of command)
next_world world commands i command there =
    ap (λ cs. fold_steps world (map request_of cs)) (take_more commands i command (slice_get_within commands i command there) ∙ ap (λ c. take i commands ++ c ∷ []) (get_or_from_slice_get commands i command command there))
    ∙ ap (λ rs. fold_steps world rs) (map-append request_of (take i commands) (command ∷ [])) ∙ fold_more world (map request_of (take i commands)) (request_of command)

-- these tables stand for the world after a beginning of a list
pub record IsBeginning (world : World) (commands : List Command) (run : Run) (db : Trees) : Type 0 where
  pub count : ℕ
  pub kept : IsKept commands run count
  pub found : FoundAs db (world_after world commands count)
  pub project : IsProject (world_after world commands count)

-- after a run of commands
module _ (world : World) (commands : List Command) (mid : State) (project : IsProject world) (db : Trees) (may : mid.may_leave db) where
  beginning_at : (run : Run) (count : ℕ) → run.acknowledged ≤ count → count ≤ run.acknowledged + 1 → (run.acknowledged < count → EndsBy run IsFailure) → count ≤ length commands → IsProject (world_after world commands count)
      → FoundAs db (world_after world commands count) → IsBeginning world commands run db
  beginning_at run count has most cut within still found = record {
    count = count;
    kept = record { within = within; has_acknowledged = has; at_most_one_more = most; cut = cut };
    found = found;
    project = still;
  }

  pub beginning_of : (answers : List Answer) (run : Run) (has_ended : Bool) → (has_ended ≡ true → EndsBy run IsFailure) → Drives world commands answers run has_ended mid → IsBeginning world commands run db
  beginning_of answers run false ends drives = beginning_at run run.acknowledged (omega arith) (omega arith) (λ more. absurd (omega (arith, more))) drives.within drives.project ((drives.goes refl).left _ may)
  beginning_of answers run true ends drives =
      let (cut, there, ended) = drives.ended refl in
      let low = slice_get_within commands run.acknowledged cut there in
      elim (ended.left _ may) [
        | inl before ↦ beginning_at run run.acknowledged (omega arith) (omega arith) (λ more. absurd (omega (arith, more))) drives.within drives.project before
        | inr after ↦
            let next = next_world world commands run.acknowledged cut there in
            beginning_at run (run.acknowledged + 1) (omega arith) (omega arith) (λ more. ends refl) (omega (arith, low))
            (subst (λ w. IsProject w) (sym next) (drives.cut_project refl cut there)) (subst (λ w. FoundAs db w) (sym next) after)
      ]

  -- over a session that had ended no command is done
  pub beginning_none : (run : Run) → run.acknowledged ≡ 0 → GoesOn mid world → IsBeginning world commands run db
  beginning_none run none goes = beginning_at run 0 (omega (arith, none)) (omega arith) (λ more. absurd (omega (arith, more))) (omega arith) project (goes.left _ may)

pub holds_from : (world : World) (commands : List Command) (run : Run) (new : State) → IsCommitted new → IsBeginning world commands run new.now.trees → HoldsBeginning world commands run new
holds_from world commands run new whole it = record { count = it.count; kept = it.kept; goes = goes_again new _ whole it.found; project = it.project }

-- and what is found of it
module _ (world : World) (commands : List Command) (mid new : State) (again : IsReopened mid new) (project : IsProject world) where
  pub holds_beginning : (answers : List Answer) (run : Run) (has_ended : Bool) → (has_ended ≡ true → EndsBy run IsFailure) → Drives world commands answers run has_ended mid → ∥ HoldsBeginning world commands run new ∥₁
  holds_beginning answers run has_ended ends drives = ∥∥₁_map again.found (λ may. holds_from world commands run new again.whole (beginning_of world commands mid project _ may answers run has_ended ends drives))

  pub holds_none : (run : Run) → run.acknowledged ≡ 0 → GoesOn mid world → ∥ HoldsBeginning world commands run new ∥₁
  holds_none run none goes = ∥∥₁_map again.found (λ may. holds_from world commands run new again.whole (beginning_none world commands mid project _ may run none goes))

pub answers_none : (world : World) (commands : List Command) (answers : List Answer) (run : Run) → run.acknowledged ≡ 0 → length answers ≡ run.acknowledged → AnswerAll world (take run.acknowledged commands) answers
answers_none world commands [] run none count = subst (λ k. AnswerAll world (take k commands) []) (sym none) tt
answers_none world commands (answer ∷ answers) run none count = absurd (omega (arith, none, count))

-- ---- the next session of a life

pub sessions_more : (world : World) (told : List Transcript) (life : List Lived) (next : Transcript) (lived : Lived) → AreSessionsOf world told life → IsSessionOf (world_of_life world life) next lived
    → AreSessionsOf world (told ++ next ∷ []) (life ++ lived ∷ [])
sessions_more world [] [] next lived all it = (it, tt)
sessions_more world [] (l ∷ life) next lived all it = absurd all
sessions_more world (t ∷ told) [] next lived all it = absurd all
sessions_more world (t ∷ told) (l ∷ life) next lived (first, all) it = (first, sessions_more (world_lived world l) told life next lived all it)

pub lived_none : {S : Type 0} {g : Store.Ghosts S} (world : World) (session : Project S g) → IsOver session world → HasLived world [] session
lived_none world session over = record { life = []; sessions = tt; over = over }

-- a beginning of its commands is found, so it is lived
pub record IsFoundAs (world : World) (told : Transcript) (after : World) : Type 0 where
  pub lived : Lived
  pub is : IsSessionOf world told lived
  pub left : world_lived world lived ≡ after

pub found_as : (world : World) (told : Transcript) (count : ℕ) → IsKept told.commands told.run count → AnswerAll world (take told.run.acknowledged told.commands) told.answers → IsFoundAs world told (world_after world told.commands count)
found_as world told count kept answered = elim (nat_cases count told.run.acknowledged kept.has_acknowledged kept.at_most_one_more) [
  | inl same ↦ record {
    lived = record { session = session_of told.commands told.run false; is_cut_in = false };
    is = record { within = omega (arith, kept.has_acknowledged, kept.within); answered = answered; has_ended = false; session = refl; ends = λ no. absurd cc };
    left = ap (λ k. world_after world told.commands k) (sym same);
  }
  | inr next ↦
      let low : told.run.acknowledged < length told.commands = let in_it = kept.within in omega (arith, next, in_it) in
      let (cut, there) = at_place told.commands told.run.acknowledged low in
      let left : world_accepted world (session_of told.commands told.run true) ≡ step (world_after world told.commands told.run.acknowledged) (request_of cut) =
      rw there (fold_more world (map request_of (take told.run.acknowledged told.commands)) (request_of cut)) in
      record {
        lived = record { session = session_of told.commands told.run true; is_cut_in = true };
        is = record { within = omega (arith, low); answered = answered; has_ended = true; session = refl; ends = λ is. kept.cut (omega (arith, next)) };
        left = left ∙ sym (ap (λ k. world_after world told.commands k) next ∙ next_world world told.commands told.run.acknowledged cut there);
      }
]
  where
    nat_cases : (a b : ℕ) → b ≤ a → a ≤ b + 1 → (a ≡ b) ⊎ (a ≡ b + 1)
    nat_cases a b low high = elim (cases_eq a b) [ inl same ↦ inl same | inr other ↦ inr (omega (arith, low, high, other)) ]

    at_place : (commands : List Command) (i : ℕ) → i < length commands → (cut : Command) × (slice_get commands i ≡ Some cut)
    at_place [] i low = absurd (omega (arith, low))
    at_place (command ∷ more) zero low = (command, refl)
    at_place (command ∷ more) (suc i) low = at_place more i (omega (arith, low))

abbrev pub lived_more : {S T : Type 0} {g : Store.Ghosts S} {h : Store.Ghosts T} (world : World) (told : List Transcript) (next : Transcript) (old : Project S g) (new : Project T h) → (lived : HasLived world told old)
    → (holds : HoldsBeginning (world_of_life world lived.life) next.commands next.run (state_of new)) → IsOfItsVersion new (world_after (world_of_life world lived.life) next.commands holds.count)
    → AnswerAll (world_of_life world lived.life) (take next.run.acknowledged next.commands) next.answers → HasLived world (told ++ next ∷ []) new
lived_more world told next old new lived holds knows answered =
    let it = found_as (world_of_life world lived.life) next holds.count holds.kept answered in
    let left : world_of_life world (lived.life ++ it.lived ∷ []) ≡ world_after (world_of_life world lived.life) next.commands holds.count = life_more world lived.life it.lived ∙ it.left in
    record {
      life = lived.life ++ it.lived ∷ [];
      sessions = sessions_more world told lived.life next it.lived lived.sessions it.is;
      over = subst (λ w. IsOver new w) (sym left) (record { is_project = holds.project; version = knows; goes = holds.goes });
    }

-- why each session ended, with one more
pub ends_more : (begun : Type 0) (world : World) (told : List Transcript) (life : List Lived) (next : Transcript) (lived : Lived) → AreSessionsOf world told life → EndEach begun world told life
    → (begun ⊎ (1 ≤ length told) → EndsEarly (world_of_life world life) next.commands next.run) → EndEach begun world (told ++ next ∷ []) (life ++ lived ∷ [])
ends_more begun world [] [] next lived all ends why = (λ on. why (inl on), tt)
ends_more begun world [] (l ∷ life) next lived all ends why = absurd all
ends_more begun world (t ∷ told) [] next lived all ends why = absurd all
ends_more begun world (t ∷ told) (l ∷ life) next lived (one, all) (first, ends) why =
    (first, ends_more ⊤ (world_lived world l) told life next lived all ends (λ on. why (inr (omega arith))))

pub written_more : (old mid new : Option (List ℕ)) (told : List Transcript) (next : Transcript) → WritesTold old mid told → WritesAnswers mid new next.answers next.run → WritesTold old new (told ++ next ∷ [])
written_more old mid new [] next same written = (new, subst (λ o. WritesAnswers o new next.answers next.run) same written, refl)
written_more old mid new (t ∷ told) next (first, one, rest) written = (first, one, written_more first mid new told next rest written)

commands_more : (lives : List (Vec Command Global)) (i : ℕ) (life d : Vec Command Global) → i < length lives → get_or lives i d ≡ life
    → commands_of (take i lives) ++ life.items ∷ [] ≡ commands_of (take (i + 1) lives)
commands_more lives i life d low there =
    sym (ap (λ ls. commands_of ls) (take_more lives i d low ∙ ap (λ l. take i lives ++ l ∷ []) there) ∙ map-append (λ l. l.items) (take i lives) (life ∷ []))

-- one more of a list of lives
pub of_more : (lives : List (Vec Command Global)) (i : ℕ) (life d : Vec Command Global) (runs more : List Run) (told : List Transcript) (next : Transcript) → i < length lives → get_or lives i d ≡ life → next.commands ≡ life.items
    → more ≡ runs ++ next.run ∷ [] → AreOf (commands_of (take i lives)) runs told → AreOf (commands_of (take (i + 1) lives)) more (told ++ next ∷ [])
of_more lives i life d runs more told next low there same pushed are = record {
  their_commands = map-append (λ (t : Transcript). t.commands) told (next ∷ []) ∙ ap (λ cs. cs ++ next.commands ∷ []) are.their_commands ∙ ap (λ c. commands_of (take i lives) ++ c ∷ []) same ∙ commands_more lives i life d low there;
  their_runs = map-append (λ (t : Transcript). t.run) told (next ∷ []) ∙ ap (λ rs. rs ++ next.run ∷ []) are.their_runs ∙ sym pushed;
}

-- and one more run
pub one_more : (runs more : List Run) (run : Run) (count : ℕ) → more ≡ runs ++ run ∷ [] → length runs ≡ count → length more ≡ count + 1
one_more runs more run count pushed so_far = rw (pushed) (length-append runs (run ∷ []) ∙ ap (λ n. n + 1) so_far)

-- each of them did all of its list
all_more : (lives : List (Vec Command Global)) (runs : List Run) (life : Vec Command Global) (run : Run) → EachDoesAll lives runs → DoesAll life.items run → EachDoesAll (lives ++ life ∷ []) (runs ++ run ∷ [])
all_more [] [] life run each it = (it, tt)
all_more [] (r ∷ runs) life run each it = absurd each
all_more (l ∷ lives) [] life run each it = absurd each
all_more (l ∷ lives) (r ∷ runs) life run (first, rest) it = (first, all_more lives runs life run rest it)

pub each_more : (lives : List (Vec Command Global)) (i : ℕ) (life d : Vec Command Global) (runs more : List Run) (run : Run) → i < length lives → get_or lives i d ≡ life → more ≡ runs ++ run ∷ []
    → EachDoesAll (take i lives) runs → DoesAll life.items run → EachDoesAll (take (i + 1) lives) more
each_more lives i life d runs more run low there pushed each it =
    subst (λ rs. EachDoesAll (take (i + 1) lives) rs) (sym pushed)
    (subst (λ ls. EachDoesAll ls (runs ++ run ∷ [])) (sym (take_more lives i d low ∙ ap (λ l. take i lives ++ l ∷ []) there)) (all_more (take i lives) runs life run each it))
