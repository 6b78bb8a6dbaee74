use Rattle.wu_store.proofs.PlacedLemmas.{instance_placed}
use Rattle.wu_store.proofs.laws.instances_are_added_one_by_one.Goals as goal

pub returns : goal.returns
returns c = λ w i world none. instance_placed w i world none
