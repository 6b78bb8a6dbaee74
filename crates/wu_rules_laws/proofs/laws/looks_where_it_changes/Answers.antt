use Rattle.wu_rules_laws.proofs.Judged.{looked-changed, changed-looked}
use Rattle.wu_rules_laws.proofs.laws.looks_where_it_changes.Goals as goal

pub returns : goal.returns
returns c w = (looked-changed w, changed-looked w)
