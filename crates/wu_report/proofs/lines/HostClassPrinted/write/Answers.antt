use Rattle.wu_report.proofs.LineLemmas.{class_pieces-are}
use Rattle.wu_report.proofs.lines.HostClassPrinted.write.Goals as goal

pub returns : goal.returns
returns g c = rw (class_pieces-are c.args.self.now _ _ c.as_str.ensures c.from.ensures) c.write_pieces.ensures
