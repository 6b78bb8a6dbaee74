use Rattle.wu_report.proofs.WritingLemmas.{prints_next, prints_until}
use Rattle.wu_report.specs.Texts.{import_detail}
use Rattle.wu_report.proofs.skips.write_details.Goals as goal

pub returns-in_err-write_detail : goal.returns-in_err-write_detail
returns-in_err-write_detail g c =
    prints_until g.W.Write.contents import_detail c.args.lines.now c.loop-line.line-index c.line-item.result c.loop-line-test.true c.line-item.is _ _ _ c.loop-line.invariant
    c.in_err-write_detail.field-0.0 c.from_residual.result c.from_residual.ensures.1 c.in_err-write_detail.ensures

pub loop-line-preserved : goal.loop-line-preserved
loop-line-preserved g c =
    prints_next g.W.Write.contents import_detail c.args.lines.now c.loop-line.line-index c.line-item.result c.loop-line-test.true c.line-item.is _ _ _ c.loop-line.invariant
    c.in_ok-write_detail.ensures.bytes
