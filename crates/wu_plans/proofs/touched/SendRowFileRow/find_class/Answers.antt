use Rattle.wu_store.proofs.AskLemmas.{reads_if, reads_can}
use Rattle.wu_core.proofs.ClassLemmas.{class_of-within}
use Rattle.wu_plans.proofs.touched.SendRowFileRow.find_class.Goals as goal

pub returns : goal.returns
returns g c =
    reads_if (λ never. absurd never) (reads_can (λ world stood classed. class_of-within c.args.self.now.host world.classes classed) c.class_of.ensures.reads)
