use Rattle.wu_schema.proofs.Words.{state}
use Rattle.wu_schema.proofs.IndexEffect.{index_stands}
use Rattle.wu_schema.proofs.laws.an_index_leaves_the_world.Goals as goal

pub returns : goal.returns
returns g c text name d old new = index_stands text name d (state g.S.Store old) (state g.S.Store new)
