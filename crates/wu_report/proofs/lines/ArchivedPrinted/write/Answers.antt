use Rattle.std.proofs.Common.{◌∙◌}
use Rattle.wu_report.proofs.LineLemmas.{archived_pieces-are}
use Rattle.wu_report.proofs.lines.ArchivedPrinted.write.Goals as goal

pub returns : goal.returns
returns g c =
    rw (archived_pieces-are c.args.self.now _ _ _ c.as_str.ensures (c.from.ensures ∙ c.code.ensures) c.hex_or_dash.ensures)
    c.write_pieces.ensures
