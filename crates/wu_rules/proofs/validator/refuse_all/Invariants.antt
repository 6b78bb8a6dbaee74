use Rattle.std.proofs.Common.{◌≡◌, map, take, drop, ◌++◌}
use Rattle.wu_rules.specs.Validation.{refused_where}
use Rattle.wu_rules.proofs.validator.refuse_all.Given as goal

abbrev pub invariant-each : goal.invariant-each
invariant-each l = l.instance-items ≡ map (refused_where l.is_undecided) (take l.instance-index l.initial.instance-items) ++ drop l.instance-index l.initial.instance-items
