use Rattle.std.proofs.Common.{◌≡◌, replicate}
use Rattle.wu_plans.proofs.imports.applied.Given as goal

abbrev pub invariant-loop : goal.invariant-loop
invariant-loop l = l.verdicts.items ≡ replicate l.counter 0
