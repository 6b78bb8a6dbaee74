use Rattle.wu_report.proofs.WritingLemmas.{AppendsFront-longer, Writes-after, Writes-failed}
use Rattle.wu_cli.specs.Endings.{line_front, refusal_text}
use Rattle.wu_cli.proofs.texts.line_of_bad_line.Goals as goal

pub returns : goal.returns
returns g c = Writes-after _ (g.W.Write.contents c.line_number.new.out) _ (line_front c.args.bad.now.number) (refusal_text c.args.bad.now.why) _ c.in_ok-line_number.ensures c.text_of_refusal.ensures

pub returns-in_err-line_number : goal.returns-in_err-line_number
returns-in_err-line_number g c =
    Writes-failed _ _ _ c.from_residual.result c.from_residual.ensures.0
    (AppendsFront-longer _ _ (line_front c.args.bad.now.number) (refusal_text c.args.bad.now.why) c.in_err-line_number.ensures)
