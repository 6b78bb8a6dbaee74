use Rattle.std.proofs.Common.{◌<◌}
use Rattle.wu_core.specs.declared.workunit.Workunit.{Workunit}
use Rattle.wu_audit.proofs.OrderLemmas.{RunsBelow}
use Rattle.wu_audit.proofs.once.first_out_of_order.Given as goal

abbrev pub invariant-loop-place : goal.invariant-loop-place
invariant-loop-place l = RunsBelow (λ (one other : Workunit). one.number < other.number) l.workunits l.place
