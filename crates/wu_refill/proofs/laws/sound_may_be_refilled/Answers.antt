use Rattle.wu_refill.proofs.RefillLemmas.{may_be_refilled}
use Rattle.wu_refill.proofs.laws.sound_may_be_refilled.Goals as goal

pub returns : goal.returns
returns c = may_be_refilled
