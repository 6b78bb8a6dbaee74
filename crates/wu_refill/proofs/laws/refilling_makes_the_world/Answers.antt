use Rattle.wu_refill.proofs.RefillLemmas.{refilled}
use Rattle.wu_refill.proofs.laws.refilling_makes_the_world.Goals as goal

pub returns : goal.returns
returns c = λ world changes may are. refilled world may changes are
