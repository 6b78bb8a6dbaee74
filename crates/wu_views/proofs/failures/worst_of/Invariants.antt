use Rattle.std.proofs.Common.{take, ◌++◌, ◌≡◌}
use Rattle.wu_views.specs.Failures.{worst_first}
use Rattle.wu_views.specs.declared.failures.TheConstants.{MOST_HOSTS}
use Rattle.wu_views.proofs.failures.worst_of.Given as goal

abbrev pub invariant-loop-host : goal.invariant-loop-host
invariant-loop-host l = (l.yielded ++ l.host-iterator.rest.items ≡ l.fn.hosts.items) × (l.worst.items ≡ take MOST_HOSTS (worst_first l.yielded))
