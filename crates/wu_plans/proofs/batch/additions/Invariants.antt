use Rattle.std.proofs.Common.{◌≡◌, map}
use Rattle.std.specs.List.{enumerate_from}
use Rattle.wu_machine.specs.Batches.{new_workunit}
use Rattle.wu_store.specs.declared.changes.Change.TheVariants.{Add}
use Rattle.wu_plans.proofs.batch.additions.Given as goal

abbrev pub invariant-loop-job : goal.invariant-loop-job
invariant-loop-job l = l.changes.items ≡ map (λ p. Add (new_workunit l.fn.params p.0 p.1)) (enumerate_from l.fn.next l.yielded)
