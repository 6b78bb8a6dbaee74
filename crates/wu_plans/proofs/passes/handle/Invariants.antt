use Rattle.wu_plans.specs.PassPlans.{HandlesAll}
use Rattle.wu_plans.proofs.passes.handle.Given as goal

abbrev pub invariant-loop-workunit : goal.invariant-loop-workunit
invariant-loop-workunit l = HandlesAll l.fn.pass l.fn.now l.yielded l.handled
