use Rattle.wu_rules.specs.Due.{chosen}
use Rattle.wu_machine_laws.proofs.PassLaws.{others_stay}
use Rattle.wu_machine_laws.proofs.laws.leaves_the_others.Goals as goal

pub returns : goal.returns
returns c pass now min_age limit world = others_stay pass now (chosen pass now min_age limit world) world.workunits
