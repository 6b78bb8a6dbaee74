-- The numbers of a batch.
use Rattle.std.proofs.Common.{◌≡◌, ◌≢◌, ℕ, ◌+◌, nat_lt, List, [], ◌∷◌, map, length, Option, Some, None, option_map, Ok, refl, sym, ap, subst, ◌∙◌}
use Rattle.std.proofs.lemmas.List.{length-map}
use Rattle.std.proofs.lemmas.List.FromFn.{length-enumerate_from}
use Rattle.std.specs.List.{enumerate_from}
use Rattle.std.specs.Option.{IsSomeAnd}
use Rattle.wu_core.specs.Limits.{most_workunits}
use Rattle.wu_core.specs.Parameters.{Parameters}
use Rattle.wu_core.specs.World.{World}
use Rattle.wu_core.specs.declared.import.ImportKind.TheVariants as kind
use Rattle.wu_feed.specs.declared.jobs.Job.{Job}
use Rattle.wu_machine.specs.Batches.{first_number, first_taken, new_workunit, unless_taken, with_jobs}
use Rattle.wu_machine.specs.Imports.{batch_given, Given, jobs_kept}
use Rattle.wu_machine.specs.Machine.{reply_of, world_of}
use Rattle.wu_machine.specs.Requests.{AskBatch, Imported}
use Rattle.wu_rules_laws.proofs.Making.{at_placed}
use Rattle.wu_machine_laws.proofs.Results.{either, not_older}
use Rattle.wu_machine_laws.specs.Leaving.{IsNewOf, Numbers, NumbersBatches}

-- what a batch that is added makes
added_numbers : (world after : World) (params : Parameters) (jobs : List Job) → after.workunits ≡ (with_jobs world params jobs).workunits
    → after.next_number ≡ (with_jobs world params jobs).next_number → Numbers world after params jobs (first_number world jobs)
added_numbers world after params jobs workunits next = record {
  added = map (λ p. new_workunit params p.0 p.1) (enumerate_from world.next_number jobs);
  behind = workunits;
  one_each = length-map (enumerate_from world.next_number jobs) (λ p. new_workunit params p.0 p.1) ∙ length-enumerate_from world.next_number jobs;
  consecutive = λ k job here. subst (λ o. IsSomeAnd o (IsNewOf params job (world.next_number + k)))
      (sym (at_placed (new_workunit params) world.next_number jobs k ∙ ap (option_map (new_workunit params (world.next_number + k))) here)) (record {
        its_number = refl;
        as_said = (refl, refl, refl);
        undecided = refl;
        no_instances = refl;
        not_done = (refl, refl, refl);
      });
  next = next;
  none = λ is. ap (first_number world) is;
  some = by jobs;
}
  where
    by : (js : List Job) → js ≢ [] → first_number world js ≡ world.next_number
    by [] other = absurd (other refl)
    by (job ∷ js) other = refl

-- jobs that are answered were added
jobs_numbered : (given : Given) (world : World) (params : Parameters) (jobs : List Job) (taken : Option (ℕ × List ℕ)) (name verdicts : List ℕ) (first : ℕ)
    → reply_of (jobs_kept given world jobs (unless_taken world params jobs taken)) ≡ Ok (Imported kind.Batch name first verdicts)
    → Numbers world (world_of world (jobs_kept given world jobs (unless_taken world params jobs taken))) params jobs first
jobs_numbered given world params jobs (Some place) name verdicts first = λ answered. absurd (cc)
jobs_numbered given world params jobs None name verdicts first =
    either (λ after. reply_of (jobs_kept given world jobs after) ≡ Ok (Imported kind.Batch name first verdicts)
    → Numbers world (world_of world (jobs_kept given world jobs after)) params jobs first) (nat_lt (most_workunits + 1) (world.next_number + length jobs)) _ _
    (λ many answered. absurd (cc)) (λ few answered. let same : first_number world jobs ≡ first = cc in
    subst (Numbers world _ params jobs) same (added_numbers world _ params jobs refl refl))

pub numbers_batches : NumbersBatches
numbers_batches world name template file verdicts first params jobs new template_is file_is answered =
    let younger = not_older world (AskBatch name template file) _ refl answered in
    rw (younger, new, template_is, file_is) (jobs_numbered (batch_given name template file) world params jobs (first_taken world jobs) name verdicts first
    (rw (younger, new, template_is, file_is) at answered))
