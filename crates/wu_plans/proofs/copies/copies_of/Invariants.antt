use Rattle.std.proofs.Common.{◌≡◌, take}
use Rattle.wu_plans.proofs.copies.copies_of.Given as goal

abbrev pub invariant-loop-instance : goal.invariant-loop-instance
invariant-loop-instance l = l.copies.items ≡ take l.instance-index l.instances
