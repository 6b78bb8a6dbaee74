use Rattle.wu_cli.proofs.HearingLemmas.{hears_next}
use Rattle.wu_cli.proofs.hearing.hear.Goals as goal

pub returns-in-Ok : goal.returns-in-Ok
returns-in-Ok g c = hears_next (g.R.Read.remaining c.args.input.now) (g.R.Read.remaining c.take_line.new.input) c.in-Ok.text.items c.heard_of.result c.in-Ok.ensures c.heard_of.ensures
