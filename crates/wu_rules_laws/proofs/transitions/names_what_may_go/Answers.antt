use Rattle.wu_rules_laws.proofs.Naming.{names_files}
use Rattle.wu_rules_laws.proofs.transitions.names_what_may_go.Goals as goal

pub returns : goal.returns
returns c = names_files
