-- What the demonstration asks for and prints.
use Rattle.std.proofs.Common.{◌≡◌, ◌∙◌, ℕ, List, [], ◌∷◌, ◌++◌, append-nil, Option, None, Result, Ok, Err, inl, inr, refl, sym, ap, subst, take, arith}
use Rattle.std.specs.Prelude.{OnOk, codes}
use Rattle.std.proofs.KnownBytes.{Appends-trans}
use Rattle.std.proofs.lemmas.Bool.{cases_Bool}
use Rattle.std.proofs.lemmas.Bool.Decides.{nat_tests}
use Rattle.std.specs.Io.KnownBytes.{Appends}
use Rattle.sqlite.specs.State.{State, HasCleanDisk}
use Rattle.sqlite.specs.Steps.{IsEmpty}
use Rattle.sqlite_trees.specs.declared.store.Store.{Ghosts}
use Rattle.wu_core.specs.Names.{name_of}
use Rattle.wu_core.specs.Reads.{IsOrWantsMemory}
use Rattle.wu_core.specs.World.{empty_world}
use Rattle.wu_core.specs.declared.fault.Fault.{Fault}
use Rattle.wu_machine.proofs.ImportLemmas.{stays_step}
use Rattle.wu_machine.specs.Commands.{reply_of_answer, request_of}
use Rattle.wu_machine.specs.Machine.{reply, step}
use Rattle.wu_machine.specs.Requests.{AskBatch}
use Rattle.wu_machine.specs.declared.command.Answer.{Answer}
use Rattle.wu_machine.specs.declared.command.Command.{Command}
use Rattle.wu_machine.specs.declared.view.View.TheVariants.{Workunits}
use Rattle.wu_schema.proofs.VersionLemmas.{free_lacks}
use Rattle.wu_schema.specs.Refines.{IsFree}
use Rattle.wu_passes.specs.declared.project.Project.{Project}
use Rattle.wu_passes.specs.Adopting.{IsVacant}
use Rattle.wu_passes.specs.Projects.{IsOver, IsSessionOpen, IsSessionEnded, has_ended, state_of}
use Rattle.wu_passes.specs.Standing.{GoesOn, IsFailure}
use Rattle.wu_store.specs.StandsFor.{KnowsClasses}
use Rattle.wu_report.specs.Texts.{line_end, view_text}
use Rattle.wu_report.specs.Views.{Shows}
use Rattle.wu_report.specs.Writing.{WritesTo}
use Rattle.wu_drive.specs.declared.runs.Run.{Run}
use Rattle.wu_drive.specs.Demonstration.{IsDemonstrated, demonstration}
use Rattle.wu_drive.specs.Driving.{AnswerAll, Drives, DrivesFromAny, DrivesProject, EndsBy, world_after}
use Rattle.wu_drive.specs.Texts.{reply_text}
use Rattle.wu_drive.specs.Writing.{WritesAnswers, answers_text}

-- ---- what is asked

its_name : (name : List ℕ) → IsOrWantsMemory (Ok name) (name_of (codes "b1")) → name ≡ codes "b1"
its_name name (inl is) = cc
its_name name (inr is) = cc

pub is_demonstration : (name file : List ℕ) → IsOrWantsMemory (Ok name) (name_of (codes "b1")) → file ≡ codes "name,input" ++ line_end ++ codes "job_1,00ff" ++ line_end
    → AskBatch name [] file ≡ demonstration
unfolding demonstration
is_demonstration name file named is = ap (λ n. AskBatch n [] file) (its_name name named) ∙ ap (AskBatch (codes "b1") []) is

-- ---- where it begins

-- a database in memory has no project
pub empty_is_vacant : (s : State) → IsEmpty s → IsVacant s
empty_is_vacant s empty = free_lacks s.now.schema
    (subst (λ schema. IsFree schema (codes "project")) (sym empty.2) (record { table = refl; index = refl; view = refl }))

-- ---- what is printed

one_answer : (command : Command) (answers : List Answer) → AnswerAll empty_world (command ∷ []) answers
    → (answer : Answer) × (answers ≡ answer ∷ []) × (reply empty_world (request_of command) ≡ Ok (reply_of_answer answer))
one_answer command [] all = absurd all
one_answer command (answer ∷ []) all = (answer, refl, all.0)
one_answer command (answer ∷ other ∷ answers) all = absurd all.1

module _ {S W : Type 0} {store : Ghosts S} (contents : W → Option (List ℕ)) (fresh mid new : Project S store) (out_old out_mid out_new : W) (command : Command) (run : Run)
    (asked : request_of command ≡ demonstration) (going : IsSessionOpen fresh) (over_empty : IsOver fresh empty_world)
    (mid_clean : HasCleanDisk (state_of mid)) (new_clean : HasCleanDisk (state_of new)) (whole : run.end ≡ None) (all : run.end ≡ None → run.acknowledged ≡ 1)
    (ends : IsSessionOpen fresh → IsSessionEnded mid → EndsBy run IsFailure)
    (answers : (answers : List Answer) × WritesAnswers (contents out_old) (contents out_mid) answers run × DrivesProject fresh mid (command ∷ []) answers run × DrivesFromAny fresh mid (command ∷ []) answers run) where
  driven : Drives empty_world (command ∷ []) answers.0 run (has_ended mid) (state_of mid)
  driven = answers.2 going mid_clean empty_world over_empty

  one : run.acknowledged ≡ 1
  one = all whole

  still : IsSessionOpen mid
  still = elim (cases_Bool (has_ended mid)) [
    | inr on ↦ on
    | inl over ↦ let by = ends going over in absurd (let no = sym by.1 ∙ whole in cc)
  ]

  answered : (answer : Answer) × (answers.0 ≡ answer ∷ []) × (reply empty_world (request_of command) ≡ Ok (reply_of_answer answer))
  answered = one_answer command answers.0 (subst (λ n. AnswerAll empty_world (take n (command ∷ [])) answers.0) one driven.answered)

  told : reply empty_world demonstration ≡ Ok (reply_of_answer answered.0)
  told = subst (λ r. reply empty_world r ≡ Ok (reply_of_answer answered.0)) asked answered.2

  goes : GoesOn (state_of mid) (step empty_world demonstration)
  goes = subst (λ r. GoesOn (state_of mid) (step empty_world r)) asked (subst (λ n. GoesOn (state_of mid) (world_after empty_world (command ∷ []) n)) one (driven.goes still))

  knows : KnowsClasses (step empty_world demonstration)
  knows = let still = (stays_step empty_world demonstration).version refl in grind (arith, nat_tests)

  answer_out : Appends (contents out_old) (contents out_mid) (reply_text (reply_of_answer answered.0))
  answer_out =
      subst (Appends (contents out_old) (contents out_mid)) (ap answers_text answered.1 ∙ append-nil (reply_text (reply_of_answer answered.0)))
      (answers.1.whole (λ is. let no = sym whole ∙ is in cc))

  pub demonstrated : {T : Type 0} (result : Result T Fault) → Shows contents mid new out_mid out_new Workunits result → OnOk result (IsDemonstrated (contents out_old) (contents out_new))
  demonstrated {T} result shows = by result (shows still new_clean (step empty_world demonstration) knows goes.stands)
    where
      by : (result : Result T Fault) → WritesTo contents out_mid out_new (view_text (step empty_world demonstration) Workunits) result
          → OnOk result (IsDemonstrated (contents out_old) (contents out_new))
      by (Err fault) written = tt
      by (Ok x) written = (
        reply_of_answer answered.0,
        told,
        Appends-trans (contents out_old) (contents out_mid) (contents out_new) (reply_text (reply_of_answer answered.0))
            (view_text (step empty_world demonstration) Workunits) answer_out written,
      )
