use Rattle.std.proofs.Common.{◌≡◌, map, take, drop, ◌++◌}
use Rattle.wu_rules.specs.Assimilation.{without_output}
use Rattle.wu_rules.proofs.deleter.delete_outputs.Given as goal

abbrev pub invariant-each : goal.invariant-each
invariant-each l = l.instance-items ≡ map without_output (take l.instance-index l.initial.instance-items) ++ drop l.instance-index l.initial.instance-items
