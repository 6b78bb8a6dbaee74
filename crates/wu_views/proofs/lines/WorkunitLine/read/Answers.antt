use Rattle.wu_schema.proofs.Words.{refl, rules}
use Rattle.wu_schema.specs.Reading.{IsProgress, progress_cells}
use Rattle.wu_views.specs.Lines.{IsStoredLine, line_row}
use Rattle.wu_views.proofs.LineLemmas.{part_unread, progress_is, progress_of, workunit_line_read}
use Rattle.wu_views.proofs.lines.WorkunitLine.read.Goals as goal

pub returns-in_err-progress : goal.returns-in_err-progress
returns-in_err-progress c =
    part_unread progress_of line_row progress_cells IsStoredLine IsProgress c.args.row.now 10 5 progress_is (λ w. refl) c.in_err-progress.field-0.0 c.in_err-progress.ensures c.from_residual-in_err-progress.result c.from_residual-in_err-progress.ensures.1

pub returns : goal.returns
returns c =
    workunit_line_read c.args.row.now _ _ _ _ _ _ (search rules) c.in_ok-number.ensures c.in_ok-name.ensures c.in_ok-params.ensures c.in_ok-input.ensures c.in_ok-progress.ensures c.in_ok-class.ensures
