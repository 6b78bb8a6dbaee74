use Rattle.wu_rules_laws.proofs.Rewriting.{rules_rewrite}
use Rattle.wu_rules_laws.proofs.consistent.keeps_workunits_consistent.Goals as goal

pub returns : goal.returns
returns c = rules_rewrite
