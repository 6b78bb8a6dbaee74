use Rattle.std.proofs.Common.{◌≡◌, ◌++◌, replicate}
use Rattle.wu_core.specs.Workunit.{fresh}
use Rattle.wu_core.proofs.workunit.append_unsent.Given as goal

abbrev pub invariant-loop-made : goal.invariant-loop-made
invariant-loop-made l = l.items.items ≡ l.initial.items.items ++ replicate l._made fresh
