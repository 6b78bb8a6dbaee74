use Rattle.std.proofs.Common.{None, Ok}
use Rattle.wu_schema.proofs.AskingLemmas.{asks_none}
use Rattle.wu_process.proofs.backup.load_if.Goals as goal

pub returns-else-is_wanted-clause-asks : goal.returns-else-is_wanted-clause-asks
returns-else-is_wanted-clause-asks g c = asks_none g.S.Store c.args.conn.now (Ok None) (λ is. absurd cc)
