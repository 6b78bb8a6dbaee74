use Rattle.wu_loader.proofs.ClassLemmas.{IsClassingAt}
use Rattle.wu_loader.proofs.classes.with_classes.Given as goal

abbrev pub invariant-loop-n : goal.invariant-loop-n
invariant-loop-n l = IsClassingAt l.fn.workunits.items l.classes l.n l.workunit-items
