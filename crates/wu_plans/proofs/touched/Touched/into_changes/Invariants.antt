use Rattle.std.proofs.Common.{◌≡◌, map}
use Rattle.wu_plans.specs.Touched.{replaces}
use Rattle.wu_plans.proofs.touched.Touched.into_changes.Given as goal

abbrev pub invariant-loop-touch : goal.invariant-loop-touch
invariant-loop-touch l = l.changes.items ≡ map (λ e. replaces e.1) l.yielded
