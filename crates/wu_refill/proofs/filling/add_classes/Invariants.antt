use Rattle.std.proofs.Common.{◌≡◌, ◌++◌, map}
use Rattle.wu_plans.specs.Planning.{sets_class}
use Rattle.wu_refill.proofs.filling.add_classes.Given as goal

abbrev pub invariant-loop-row : goal.invariant-loop-row
invariant-loop-row l = l.changes.items ≡ l.initial.changes.items ++ map sets_class l.yielded
