use Rattle.std.proofs.Common.{◌≡◌, map}
use Rattle.wu_store.specs.declared.changes.Change.TheVariants.{Remove}
use Rattle.wu_plans.proofs.passes.removals.Given as goal

abbrev pub invariant-loop-number : goal.invariant-loop-number
invariant-loop-number l = l.changes.items ≡ map Remove l.yielded
