use Rattle.std.proofs.Common.{◌≡◌, map, take, drop, ◌++◌}
use Rattle.wu_rules.specs.Validation.{doubted}
use Rattle.wu_rules.proofs.validator.doubt_all.Given as goal

abbrev pub invariant-each : goal.invariant-each
invariant-each l = l.instance-items ≡ map doubted (take l.instance-index l.initial.instance-items) ++ drop l.instance-index l.initial.instance-items
