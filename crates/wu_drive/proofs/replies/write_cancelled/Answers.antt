use Rattle.wu_drive.proofs.LineLemmas.{cancel_pieces-are}
use Rattle.wu_drive.proofs.replies.write_cancelled.Goals as goal

pub returns : goal.returns
returns g c = rw (cancel_pieces-are c.args.workunit.now _ c.as_str.ensures) c.write_pieces.ensures
