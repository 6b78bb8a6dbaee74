use Rattle.wu_report.proofs.LineLemmas.{result_pieces-are}
use Rattle.wu_report.proofs.lines.ResultLinePrinted.write.Goals as goal

pub returns : goal.returns
returns g c =
    rw (result_pieces-are c.args.self.now _ _ _ _ _ _ _ c.as_str.ensures c.from.ensures c.word.ensures c.word-2.ensures c.word-3.ensures c.word-4.ensures c.name_or_dash.ensures)
    c.write_pieces.ensures
