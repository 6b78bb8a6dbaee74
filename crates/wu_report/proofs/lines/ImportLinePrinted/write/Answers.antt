use Rattle.wu_report.proofs.LineLemmas.{import_pieces-are}
use Rattle.wu_report.proofs.lines.ImportLinePrinted.write.Goals as goal

pub returns : goal.returns
returns g c =
    rw (import_pieces-are c.args.self.now _ _ _ _ _ c.word.ensures c.as_str.ensures c.as_slice-verdicts.ensures c.applied_count-applied.ensures c.number_or_dash.ensures)
    c.write_pieces.ensures
