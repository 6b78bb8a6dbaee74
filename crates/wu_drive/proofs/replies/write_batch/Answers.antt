use Rattle.wu_drive.proofs.LineLemmas.{batch_pieces-are}
use Rattle.wu_drive.proofs.replies.write_batch.Goals as goal

pub returns : goal.returns
returns g c =
    rw (batch_pieces-are c.args.name.now c.args.first c.args.verdicts.now _ _ c.as_str.ensures c.number_or_dash.ensures) c.write_pieces.ensures
