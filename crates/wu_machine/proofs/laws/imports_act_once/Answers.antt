use Rattle.wu_machine.proofs.ImportLemmas.{imports_act_once}
use Rattle.wu_machine.proofs.laws.imports_act_once.Goals as goal

pub returns : goal.returns
returns c = imports_act_once
