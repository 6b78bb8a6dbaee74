use Rattle.std.proofs.Common.{◌≡◌, ◌++◌, map}
use Rattle.wu_store.specs.declared.changes.Change.TheVariants.{Add}
use Rattle.wu_refill.proofs.filling.add_workunits.Given as goal

abbrev pub invariant-loop-workunit : goal.invariant-loop-workunit
invariant-loop-workunit l = l.changes.items ≡ l.initial.changes.items ++ map Add l.yielded
