use Rattle.std.proofs.Common.{map, ◌++◌, ◌≡◌}
use Rattle.wu_views.specs.declared.waiting.StatusLine.TheVariants.{Host}
use Rattle.wu_views.proofs.waiting.with_hosts.Given as goal

abbrev pub invariant-loop-host : goal.invariant-loop-host
invariant-loop-host l = (l.yielded ++ l.host-iterator.rest.items ≡ l.fn.hosts.items) × (l.lines.items ≡ l.fn.lines.items ++ map Host l.yielded)
