use Rattle.wu_cli.proofs.HearingLemmas.{none_taken}
use Rattle.wu_cli.proofs.hearing.take_part.Goals as goal

pub returns-in-Err : goal.returns-in-Err
returns-in-Err g c = none_taken _ _ c.args.text.now.items c.fill_buf.follows.holds-at-none.0
