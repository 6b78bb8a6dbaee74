use Rattle.std.proofs.Common.{◌≡◌, false, take}
use Rattle.std.specs.List.{list_any, enumerate_from}
use Rattle.wu_rules.specs.Waking.{is_output_to_ready}
use Rattle.wu_rules.proofs.waking.has_output_to_ready.Given as goal

abbrev pub invariant-each : goal.invariant-each
invariant-each l = list_any (λ p. is_output_to_ready l.canonical l.is_all_finished p.0 p.1) (enumerate_from 0 (take l.n l.instance-items)) ≡ false
