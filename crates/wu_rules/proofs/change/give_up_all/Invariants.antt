use Rattle.std.proofs.Common.{◌≡◌, map, take, drop, ◌++◌}
use Rattle.wu_rules.specs.Instances.{given_up}
use Rattle.wu_rules.proofs.change.give_up_all.Given as goal

abbrev pub invariant-each : goal.invariant-each
invariant-each l = l.instance-items ≡ map given_up (take l.instance-index l.initial.instance-items) ++ drop l.instance-index l.initial.instance-items
