use Rattle.std.proofs.Common.{◌≡◌, map, take, drop, ◌++◌}
use Rattle.wu_rules.specs.Validation.{doubted_or_closed}
use Rattle.wu_rules.proofs.validator.doubt_or_close_all.Given as goal

abbrev pub invariant-each : goal.invariant-each
invariant-each l = l.instance-items ≡ map doubted_or_closed (take l.instance-index l.initial.instance-items) ++ drop l.instance-index l.initial.instance-items
