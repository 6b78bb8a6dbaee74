use Rattle.wu_report.proofs.LineLemmas.{failures_pieces-are}
use Rattle.wu_report.proofs.lines.write_failures.Goals as goal

pub returns : goal.returns
returns g c = rw (failures_pieces-are c.args.host.now _ c.as_str.ensures) c.write_pieces.ensures
