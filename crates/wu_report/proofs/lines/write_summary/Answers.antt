use Rattle.wu_report.proofs.LineLemmas.{summary_pieces-are}
use Rattle.wu_report.proofs.lines.write_summary.Goals as goal

pub returns : goal.returns
returns g c = rw (summary_pieces-are c.args.summary.now) c.write_pieces.ensures
