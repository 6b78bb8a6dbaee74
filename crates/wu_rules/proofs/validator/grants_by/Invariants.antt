use Rattle.std.proofs.Common.{◌≡◌, take, is_none}
use Rattle.std.specs.List.{filter_map, enumerate_from}
use Rattle.wu_rules.specs.Validation.{granted_to, refused_where}
use Rattle.wu_rules.proofs.validator.grants_by.Given as goal

abbrev pub invariant-each : goal.invariant-each
invariant-each l = l.list.items ≡ filter_map (λ p. granted_to l.workunit l.output p.0 (refused_where (is_none l.workunit.canonical) p.1)) (enumerate_from 0 (take l.n l.instance-items))
