use Rattle.wu_cli.proofs.PrintLemmas.{one_prints}
use Rattle.wu_cli.proofs.performing.perform.Goals as goal

pub returns-clause-prints : goal.returns-clause-prints
returns-clause-prints g c = one_prints g.W.Write.contents _ _ _ _ c.args.action.now c.act-end.result.0 c.act-end.ensures.does
