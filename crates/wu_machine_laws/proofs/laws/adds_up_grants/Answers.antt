use Rattle.wu_machine_laws.proofs.PassLaws.{adds_up}
use Rattle.wu_machine_laws.specs.Laws.{new_grants}
use Rattle.wu_machine_laws.proofs.laws.adds_up_grants.Goals as goal

pub returns : goal.returns
returns c pass now min_age limit world host = adds_up host world.grants (new_grants pass now min_age limit world)
