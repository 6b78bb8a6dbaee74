use Rattle.wu_rules.proofs.Marked.{selects-changes}
use Rattle.wu_rules_laws.proofs.laws.selects_by_marks.Goals as goal

pub returns : goal.returns
returns c pass now min_age w = selects-changes pass now min_age w
