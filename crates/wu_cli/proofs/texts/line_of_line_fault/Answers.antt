use Rattle.wu_report.proofs.WritingLemmas.{AppendsFront-longer, Writes-after, Writes-failed}
use Rattle.wu_cli.specs.Endings.{fault_line, line_front}
use Rattle.wu_cli.proofs.texts.line_of_line_fault.Goals as goal

pub returns : goal.returns
returns g c = Writes-after _ (g.W.Write.contents c.line_number.new.out) _ (line_front c.args.end.number) (fault_line c.args.end.fault) _ c.in_ok-line_number.ensures c.line_of_fault.ensures

pub returns-in_err-line_number : goal.returns-in_err-line_number
returns-in_err-line_number g c =
    Writes-failed _ _ _ c.from_residual.result c.from_residual.ensures.0
    (AppendsFront-longer _ _ (line_front c.args.end.number) (fault_line c.args.end.fault) c.in_err-line_number.ensures)
