use Rattle.std.proofs.Common.{ap}
use Rattle.wu_report.proofs.LookLemmas.{looked_refused, looked_written}
use Rattle.wu_report.proofs.ViewLemmas.{counts_written}
use Rattle.wu_report.specs.Texts.{summary_lines}
use Rattle.wu_report.proofs.views.write_counts.Goals as goal

pub returns-clause-written : goal.returns-clause-written
returns-clause-written g c =
    looked_written g.W.Write.contents c.args.project.now c.summary.new.self (λ db world knows stands. (knows, stands.refines)) _ c.in_ok-summary.summary c.in_ok-summary.ensures.looks c.args.out.now c.write_summary.new.out _ c.write_summary.result
    (λ world is. ap summary_lines is) c.write_summary.ensures

pub returns-in_err-summary-clause-written : goal.returns-in_err-summary-clause-written
returns-in_err-summary-clause-written g c =
    looked_refused g.W.Write.contents c.args.project.now c.summary.new.self (λ db world knows stands. (knows, stands.refines)) _ c.args.out.now c.in_err-summary.field-0.0 c.from_residual.result c.from_residual.ensures.0 c.from_residual.ensures.1 c.in_err-summary.ensures.looks

pub returns-clause-counted : goal.returns-clause-counted
returns-clause-counted g c clean =
    counts_written g.W.Write.contents c.args.project.now c.summary.new.self c.args.out.now c.write_summary.new.out c.in_ok-summary.summary (c.in_ok-summary.ensures.counted.states clean) (c.in_ok-summary.ensures.counted.credit clean) c.write_summary.result c.write_summary.ensures.bytes
