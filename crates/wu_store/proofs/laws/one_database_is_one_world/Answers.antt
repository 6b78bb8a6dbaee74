use Rattle.wu_store.proofs.SameWorld.{one_world}
use Rattle.wu_store.proofs.laws.one_database_is_one_world.Goals as goal

pub returns : goal.returns
returns c = one_world
