use Rattle.wu_store.proofs.PlacedLemmas.{rising_pairs, world_rises}
use Rattle.wu_store.proofs.laws.stored_worlds_are_in_order.Goals as goal

pub returns : goal.returns
returns c = λ db world stands. rising_pairs world.workunits (world_rises db world stands)
