use Rattle.wu_drive.proofs.LineLemmas.{classes_pieces-are}
use Rattle.wu_drive.proofs.replies.write_classes.Goals as goal

pub returns : goal.returns
returns g c = rw (classes_pieces-are c.args.name.now c.args.verdicts.now _ c.as_str.ensures) c.write_pieces.ensures
