use Rattle.wu_loader.proofs.DealLemmas.{IsDealingAt}
use Rattle.wu_loader.proofs.dealing.deal.Given as goal

abbrev pub invariant-loop-workunit : goal.invariant-loop-workunit
invariant-loop-workunit l = IsDealingAt l.fn.workunits.items l.fn.placed.items l.workunit-index l.workunit-items l.left.items
