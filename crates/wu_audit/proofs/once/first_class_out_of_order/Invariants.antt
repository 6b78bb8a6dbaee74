use Rattle.wu_audit.specs.Keys.{IsBefore}
use Rattle.wu_audit.proofs.OrderLemmas.{RunsBelow}
use Rattle.wu_audit.proofs.once.first_class_out_of_order.Given as goal

abbrev pub invariant-loop-place : goal.invariant-loop-place
invariant-loop-place l = RunsBelow IsBefore l.classes l.place
