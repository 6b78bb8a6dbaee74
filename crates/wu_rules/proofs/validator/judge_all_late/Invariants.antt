use Rattle.std.proofs.Common.{◌≡◌, map, take, drop, ◌++◌}
use Rattle.wu_rules.specs.Validation.{output_at, judged_late_by}
use Rattle.wu_rules.proofs.validator.judge_all_late.Given as goal

abbrev pub invariant-each : goal.invariant-each
invariant-each l = l.slice ≡ map (judged_late_by l.is_gone (output_at l.initial.slice l.n)) (take l.k l.initial.slice) ++ drop l.k l.initial.slice
