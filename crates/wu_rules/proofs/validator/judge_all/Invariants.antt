use Rattle.std.proofs.Common.{◌≡◌, map, take, drop, ◌++◌}
use Rattle.wu_rules.specs.Validation.{output_at, judged_by}
use Rattle.wu_rules.proofs.validator.judge_all.Given as goal

abbrev pub invariant-each : goal.invariant-each
invariant-each l = l.slice ≡ map (judged_by (output_at l.initial.slice l.n)) (take l.k l.initial.slice) ++ drop l.k l.initial.slice
