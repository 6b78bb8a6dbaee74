use Rattle.std.proofs.Common.{◌-◌, length}
use Rattle.wu_drive.proofs.LineLemmas.{rows_pieces, rows_pieces-are}
use Rattle.wu_report.proofs.WritingLemmas.{prints_after, prints_failed}
use Rattle.wu_core.specs.Words.{import_kind_word}
use Rattle.wu_report.specs.Texts.{skip_lines, skip_word}
use Rattle.wu_drive.proofs.replies.write_applied.Goals as goal

pub returns-in_err-write_pieces : goal.returns-in_err-write_pieces
returns-in_err-write_pieces g c =
    let verdicts = c.args.verdicts.now in
    let skip = skip_word c.args.kind in
    let applied = c.applied_count-applied.result in
    let whole = rows_pieces-are (import_kind_word c.args.kind) c.args.name.now skip verdicts _ _ applied c.word.ensures c.as_str.ensures c.applied_count-applied.ensures in
    let rows = rows_pieces c.word.result.now c.as_str.result.now applied (length verdicts - applied) in
    rw whole
    (prints_failed g.W.Write.contents _ _ rows (skip_lines skip verdicts) c.in_err-write_pieces.field-0.0 c.from_residual.result c.from_residual.ensures.1 c.in_err-write_pieces.ensures)

pub returns : goal.returns
returns g c =
    let verdicts = c.args.verdicts.now in
    let skip = skip_word c.args.kind in
    let applied = c.applied_count-applied.result in
    let whole = rows_pieces-are (import_kind_word c.args.kind) c.args.name.now skip verdicts _ _ applied c.word.ensures c.as_str.ensures c.applied_count-applied.ensures in
    let rows = rows_pieces c.word.result.now c.as_str.result.now applied (length verdicts - applied) in
    rw whole (prints_after g.W.Write.contents _ _ _ rows (skip_lines skip verdicts) c.write_skips.result c.in_ok-write_pieces.ensures.bytes c.write_skips.ensures)
