use Rattle.wu_report.proofs.LineLemmas.{next_pieces-are}
use Rattle.wu_report.proofs.lines.write_next.Goals as goal

pub returns : goal.returns
returns g c = rw (next_pieces-are c.args.deadline) c.write_pieces.ensures
