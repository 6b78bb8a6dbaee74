use Rattle.wu_schema.proofs.Words.{arith, refl}
use Rattle.wu_store.specs.Loading.{classless}
use Rattle.wu_loader.proofs.InPlaceLemmas.{mapped_more}
use Rattle.wu_loader.proofs.classes.without_classes.Goals as goal

pub loop-workunit-preserved : goal.loop-workunit-preserved
loop-workunit-preserved c = mapped_more classless _ _ _ c.workunit-item.result _ (omega arith) c.loop-workunit.invariant refl
