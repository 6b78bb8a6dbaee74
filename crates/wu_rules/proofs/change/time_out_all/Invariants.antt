use Rattle.std.proofs.Common.{◌≡◌, map, take, drop, ◌++◌}
use Rattle.wu_rules.specs.Instances.{timed_out}
use Rattle.wu_rules.proofs.change.time_out_all.Given as goal

abbrev pub invariant-each : goal.invariant-each
invariant-each l = l.instance-items ≡ map (timed_out l.now) (take l.instance-index l.initial.instance-items) ++ drop l.instance-index l.initial.instance-items
