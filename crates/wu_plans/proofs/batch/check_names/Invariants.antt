use Rattle.std.proofs.Common.{◌≡◌, take, Ok}
use Rattle.std.specs.List.Sorted.{IsPermutation}
use Rattle.std.specs.Prelude.{⊤}
use Rattle.wu_machine.specs.Batches.{job_names}
use Rattle.wu_schema.specs.Refines.{Refines}
use Rattle.wu_store.specs.Reads.{Reads}
use Rattle.wu_plans.specs.Planning.{RefusesName, texts_of}
use Rattle.wu_plans.proofs.AskLemmas.{AreFree}
use Rattle.wu_plans.proofs.batch.check_names.Given as goal

abbrev pub invariant-loop-job : goal.invariant-loop-job
invariant-loop-job g l =
    (l.place ≡ l.job-index)
    × IsPermutation (take l.job-index (job_names l.jobs)) (texts_of l.earlier.keys)
    × Reads {T = Unit {0}} g.S.Store l.initial.conn l.conn (Ok tt) ⊥ RefusesName Refines (λ _ world. AreFree world l.jobs l.job-index) (λ _. ⊤)
