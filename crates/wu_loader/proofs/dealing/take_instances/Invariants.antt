use Rattle.wu_schema.proofs.Words.{length, ◌++◌, ◌≡◌, ◌≤◌}
use Rattle.wu_core.specs.Limits.{most_instances}
use Rattle.wu_loader.specs.Dealing.{placed_from}
use Rattle.wu_loader.proofs.dealing.take_instances.Given as goal

abbrev pub invariant-each : goal.invariant-each
invariant-each l = (l.fn.left.items ≡ placed_from l.workunit l.instances.items ++ l.left.items) × (length l.instances.items ≤ most_instances)

abbrev pub decreases-each : goal.decreases-each
decreases-each l = length l.left.items
