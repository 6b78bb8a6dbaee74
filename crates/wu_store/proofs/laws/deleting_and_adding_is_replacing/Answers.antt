use Rattle.wu_store.proofs.PlacedLemmas.{replaced_is}
use Rattle.wu_store.proofs.laws.deleting_and_adding_is_replacing.Goals as goal

pub returns : goal.returns
returns c = λ db world w s there. replaced_is db world s w there
