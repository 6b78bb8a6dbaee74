use Rattle.wu_rules_laws.proofs.Unagreed.{asks_for_more}
use Rattle.wu_rules_laws.proofs.laws.asks_for_more_or_gives_up.Goals as goal

pub returns : goal.returns
returns c = asks_for_more
