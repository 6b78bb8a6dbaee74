use Rattle.wu_schema.proofs.Words.{drop, map, take, ◌++◌, ◌≡◌}
use Rattle.wu_store.specs.Loading.{classless}
use Rattle.wu_loader.proofs.classes.without_classes.Given as goal

abbrev pub invariant-loop-workunit : goal.invariant-loop-workunit
invariant-loop-workunit l = l.workunit-items ≡ map classless (take l.workunit-index l.fn.workunits.items) ++ drop l.workunit-index l.fn.workunits.items
