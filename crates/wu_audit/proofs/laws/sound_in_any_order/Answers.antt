use Rattle.wu_audit.proofs.AnyOrderLemmas.{sound_in_any_order}
use Rattle.wu_audit.proofs.laws.sound_in_any_order.Goals as goal

pub returns : goal.returns
returns c = sound_in_any_order
