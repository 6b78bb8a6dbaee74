use Rattle.wu_rules.specs.Due.{changes}
use Rattle.wu_machine_laws.proofs.PassLaws.{how_many}
use Rattle.wu_machine_laws.proofs.laws.handles_up_to_the_limit.Goals as goal

pub returns : goal.returns
returns c pass now min_age limit world = how_many (changes pass now min_age) limit world.workunits
