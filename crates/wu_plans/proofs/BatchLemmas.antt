-- What a batch's plan makes of a world is what the machine makes of it.
use Rattle.std.proofs.Common.{append_assoc, ◌≡◌, ◌⊎◌, ℕ, ◌+◌, ◌≤◌, ◌==◌, false, List, [], ◌∷◌, ◌++◌, length, map, Some, None, Result, Ok, Err, IfOk, IfErr, refl, sym, ap, subst, ◌∙◌, inl, inr, arith, nat_lt}
use Rattle.std.proofs.lemmas.Bool.Decides.{nat_tests}
use Rattle.std.proofs.lemmas.List.{append-nil}
use Rattle.std.specs.List.{enumerate_from}
use Rattle.wu_core.specs.declared.fault.Fault.{Fault}
use Rattle.wu_core.specs.declared.fault.Fault.TheVariants.{Memory, WorkunitUsed}
use Rattle.wu_core.specs.declared.workunit.Workunit.{Workunit}
use Rattle.wu_core.specs.Limits.{most_workunits}
use Rattle.wu_core.specs.Parameters.{Parameters}
use Rattle.wu_core.specs.World.{MadeNone, MayBeKept, World}
use Rattle.wu_core.specs.Storable.{IsAbove}
use Rattle.wu_feed.specs.declared.jobs.Job.{Job}
use Rattle.wu_feed.specs.Jobs.{jobs_of_file}
use Rattle.wu_feed.specs.Templates.{template_of}
use Rattle.wu_machine.specs.Batches.{all_applied, first_number, first_taken, new_workunit, with_jobs}
use Rattle.wu_store.specs.Changing.{AreRight, import_of_change, made, made_all}
use Rattle.wu_machine.specs.Imports.{batch_given, Done, Given, import_of, kept_import, keeping}
use Rattle.wu_machine.specs.Machine.{done, IsUpToDate}
use Rattle.wu_plans.specs.Planning.{additions, first_of, IsNewBatch, IsPlan, Plans, TellsTaken}
use Rattle.wu_machine.specs.Commands.{reply_of_answer}
use Rattle.wu_machine.specs.Sound.{IsProject}
use Rattle.wu_store.specs.Loading.{IsStoreFault}
use Rattle.wu_store.specs.StandsFor.{KnowsClasses}
use Rattle.wu_machine.specs.Requests.{AskBatch}
use Rattle.wu_plans.specs.declared.plan.Plan.{Plan}
use Rattle.wu_store.specs.declared.changes.Change.{Change}
use Rattle.wu_store.specs.declared.changes.Change.TheVariants.{Next, Keep}
use Rattle.wu_store.specs.declared.changes.Import.{Import as Kept}
use Rattle.wu_plans.proofs.ImportPlans.{kept_done, never_before}
use Rattle.wu_plans.proofs.PlanLemmas.{added, classed}
use Rattle.wu_machine.proofs.BatchKeeps.{above_more, asked_of, news, with_kept}

-- the world with workunits more
abbrev pub with_workunits : List Workunit → World → World
with_workunits ws world = record world { workunits = world.workunits ++ ws }

made_adds : (params : Parameters) (ps : List (ℕ × Job)) (rest : List Change) (world : World)
    → made_all (map (added params) ps ++ rest) world ≡ made_all rest (with_workunits (news params ps) world)
made_adds params [] rest world = ap (λ ws. made_all rest (record world { workunits = ws })) (sym (append-nil world.workunits))
made_adds params (p ∷ ps) rest world =
    made_adds params ps rest (made (added params p) world)
    ∙ ap (λ ws. made_all rest (record world { workunits = ws })) (append_assoc world.workunits (new_workunit params p.0 p.1 ∷ []) (news params ps))

right_adds : (params : Parameters) (n : ℕ) (jobs : List Job) (rest : List Change) (world : World) → KnowsClasses world → IsAbove n world.workunits
    → ((after : World) → AreRight rest after) → AreRight (map (added params) (enumerate_from n jobs) ++ rest) world
right_adds params n [] rest world queue above right = right world
right_adds params n (job ∷ jobs) rest world queue above right =
    ((queue, above), right_adds params (n + 1) jobs rest (made (added params (n, job)) world) queue (above_more n world.workunits (new_workunit params n job) above refl) right)

first_is : (world : World) (jobs : List Job) → first_number world jobs ≡ first_of world.next_number (length jobs)
first_is world [] = refl
first_is world (job ∷ jobs) = let no : (length (job ∷ jobs) == 0) ≡ false = grind (arith, nat_tests) in rw no refl

few_enough : (n : ℕ) → n ≤ most_workunits + 1 → nat_lt (most_workunits + 1) n ≡ false
few_enough n few = grind (arith, nat_tests)

-- a batch may be kept with the number of its first job
batch_kept : (name template file : List ℕ) (world : World) (jobs : List Job) → MayBeKept (kept_import (batch_given name template file) (first_number world jobs) (all_applied jobs))
batch_kept name template file world jobs = record { template = λ other. absurd (other refl); first_number = numbered jobs }
  where
    numbered : (jobs : List Job) → MadeNone (kept_import (batch_given name template file) (first_number world jobs) (all_applied jobs)) → first_number world jobs ≡ 0
    numbered [] none = refl
    numbered (job ∷ jobs) (inl other) = absurd (other refl)
    numbered (job ∷ jobs) (inr none) = absurd cc

-- a batch that is not refused
module _ (world : World) (is : IsUpToDate world) (project : IsProject world) (name template file : List ℕ) (params : Parameters) (jobs : List Job) where
  made_new : (kept : Kept) → made_all (additions params world.next_number jobs ++ Keep kept ∷ []) world ≡ with_kept (import_of_change kept) (with_jobs world params jobs)
  made_new kept =
      let adds = map (added params) (enumerate_from world.next_number jobs) in
      ap (λ changes. made_all changes world) (append_assoc adds (Next (world.next_number + length jobs) ∷ []) (Keep kept ∷ []))
      ∙ made_adds params (enumerate_from world.next_number jobs) (Next (world.next_number + length jobs) ∷ Keep kept ∷ []) world

  right_new : (kept : Kept) → MayBeKept (import_of_change kept) → AreRight (additions params world.next_number jobs ++ Keep kept ∷ []) world
  right_new kept may =
      let adds = map (added params) (enumerate_from world.next_number jobs) in
      subst (λ changes. AreRight changes world) (sym (append_assoc adds (Next (world.next_number + length jobs) ∷ []) (Keep kept ∷ [])))
      (right_adds params world.next_number jobs (Next (world.next_number + length jobs) ∷ Keep kept ∷ []) world (classed world is) project.above (λ after. (tt, (may, tt))))

  pub added_jobs : import_of world (batch_given name template file) ≡ None → template_of template ≡ Ok params → jobs_of_file file ≡ Ok jobs → first_taken world jobs ≡ None
      → world.next_number + length jobs ≤ most_workunits + 1 → (plan : Plan) → IsNewBatch (batch_given name template file) world.next_number params jobs plan
      → Plans world (AskBatch name template file) plan.answer plan.changes.items
  added_jobs fresh template_is file_is free few plan new = record {
    done = asked_of world is name template file ∙ rw (fresh, template_is, file_is, free, few_enough _ few) (ap (λ (it : Done). Ok it) same);
    right = subst (λ changes. AreRight changes world) (sym new.changes) (right_new new.kept (subst MayBeKept import_is (batch_kept name template file world jobs)));
    idle = λ before. absurd (never_before world (batch_given name template file) fresh before);
  }
    where
      given : Given
      given = batch_given name template file

      import_is : kept_import given (first_number world jobs) (all_applied jobs) ≡ import_of_change new.kept
      import_is = ap (λ first. kept_import given first (all_applied jobs)) (first_is world jobs) ∙ sym new.keeps

      same : ◌≡◌ {A = Done} (keeping given (first_number world jobs) (all_applied jobs) (with_jobs world params jobs)) (reply_of_answer plan.answer, made_all plan.changes.items world)
      same = kept_done given (first_number world jobs) (all_applied jobs) (with_jobs world params jobs) world plan new.kept (sym import_is) new.answer (ap (λ changes. made_all changes world) new.changes ∙ made_new new.kept)

-- a batch that is refused
module _ (world : World) (is_now : IsUpToDate world) (project : IsProject world) (name template file : List ℕ) where
  pub name_taken : (params : Parameters) (jobs : List Job) (place : ℕ × List ℕ) → import_of world (batch_given name template file) ≡ None → template_of template ≡ Ok params
      → jobs_of_file file ≡ Ok jobs → first_taken world jobs ≡ Some place → done world (AskBatch name template file) ≡ Err (WorkunitUsed (place.0 + 2))
  name_taken params jobs place fresh template_is file_is taken = asked_of world is_now name template file ∙ rw (fresh, template_is, file_is, taken) refl

  pub names_refused : (params : Parameters) (jobs : List Job) (fault : Fault) → import_of world (batch_given name template file) ≡ None → template_of template ≡ Ok params
      → jobs_of_file file ≡ Ok jobs → TellsTaken world jobs fault ⊎ IsStoreFault fault → (done world (AskBatch name template file) ≡ Err fault) ⊎ IsStoreFault fault
  names_refused params jobs fault fresh template_is file_is (inl told) =
      inl (name_taken params jobs told.0 fresh template_is file_is told.1 ∙ ap (λ (f : Fault). Err f) (sym told.2))
  names_refused params jobs fault fresh template_is file_is (inr store) = inr store

  pub jobs_planned : (params : Parameters) (jobs : List Job) (next : ℕ) (r : Result Plan Fault) → import_of world (batch_given name template file) ≡ None → template_of template ≡ Ok params
      → jobs_of_file file ≡ Ok jobs → first_taken world jobs ≡ None → next ≡ world.next_number → next + length jobs ≤ most_workunits + 1
      → IfOk r (IsNewBatch (batch_given name template file) next params jobs) → IfErr r (λ fault. fault ≡ Memory) → IsPlan world (AskBatch name template file) r
  jobs_planned params jobs next (Ok plan) fresh template_is file_is free next_is few new err =
      added_jobs world is_now project name template file params jobs fresh template_is file_is free (subst (λ n. n + length jobs ≤ most_workunits + 1) next_is few) plan
      (subst (λ n. IsNewBatch (batch_given name template file) n params jobs plan) next_is new)
  jobs_planned params jobs next (Err fault) fresh template_is file_is free next_is few new err = inr (inl err)
