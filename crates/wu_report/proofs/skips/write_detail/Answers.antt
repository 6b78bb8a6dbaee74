use Rattle.wu_report.proofs.WritingLemmas.{prints_after, prints_failed}
use Rattle.wu_report.specs.Texts.{import_line, skip_lines, skip_word}
use Rattle.wu_report.proofs.skips.write_detail.Goals as goal

pub returns : goal.returns
returns g c =
    let line = c.args.line.now in
    prints_after g.W.Write.contents _ _ _ (import_line line) (skip_lines (skip_word line.kind) line.verdicts) c.write_skips.result c.in_ok-write.ensures.bytes
    (rw c.as_slice.ensures at c.write_skips.ensures)

pub returns-in_err-write : goal.returns-in_err-write
returns-in_err-write g c =
    let line = c.args.line.now in
    prints_failed g.W.Write.contents _ _ (import_line line) (skip_lines (skip_word line.kind) line.verdicts)
    c.in_err-write.field-0.0 c.from_residual.result c.from_residual.ensures.1 c.in_err-write.ensures
