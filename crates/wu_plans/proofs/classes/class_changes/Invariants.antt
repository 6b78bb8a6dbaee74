use Rattle.std.proofs.Common.{◌≡◌, map}
use Rattle.wu_plans.specs.Planning.{sets_class}
use Rattle.wu_plans.proofs.classes.class_changes.Given as goal

abbrev pub invariant-loop-row : goal.invariant-loop-row
invariant-loop-row l = l.changes.items ≡ map sets_class l.yielded
