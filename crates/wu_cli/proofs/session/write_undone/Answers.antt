use Rattle.wu_report.proofs.WritingLemmas.{AppendsFront-longer, Writes-after, Writes-failed}
use Rattle.wu_cli.specs.Answering.{cause_line, line_trouble_status, status_front}
use Rattle.wu_cli.proofs.session.write_undone.Goals as goal

pub returns : goal.returns
returns g c =
    let front = status_front (line_trouble_status c.args.why.now) in
    let before = rw c.status.ensures at c.in_ok-write_status.ensures in
    Writes-after _ (g.W.Write.contents c.write_status.new.out) _ front (cause_line c.args.why.now) _ before c.write.ensures

pub returns-in_err-write_status : goal.returns-in_err-write_status
returns-in_err-write_status g c =
    let front = status_front (line_trouble_status c.args.why.now) in
    let before = rw c.status.ensures at c.in_err-write_status.ensures in
    Writes-failed _ _ _ c.from_residual.result c.from_residual.ensures.0
    (AppendsFront-longer _ _ front (cause_line c.args.why.now) before)
