use Rattle.std.proofs.Common.{◌≡◌, take, drop, ◌++◌}
use Rattle.wu_rules.specs.Transition.{with_output_readied}
use Rattle.wu_rules.proofs.Lists.{map_placed}
use Rattle.wu_rules.proofs.transitioner.ready_outputs.Given as goal

abbrev pub invariant-each : goal.invariant-each
invariant-each l = l.instance-items ≡ map_placed (with_output_readied l.canonical l.is_all_finished) (take l.n l.initial.instance-items) ++ drop l.n l.initial.instance-items
