use Rattle.wu_report.proofs.LineLemmas.{counted_pieces-are}
use Rattle.wu_report.proofs.lines.write_counted.Goals as goal

pub returns : goal.returns
returns g c = rw (counted_pieces-are c.args.word.now c.args.number) c.write_pieces.ensures
