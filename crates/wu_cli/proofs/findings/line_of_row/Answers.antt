use Rattle.std.proofs.Common.{◌++◌, codes}
use Rattle.wu_report.proofs.WritingLemmas.{AppendsFront-longer, Writes-after, Writes-failed}
use Rattle.wu_report.specs.Texts.{line_end}
use Rattle.wu_cli.specs.Checks.{key_text}
use Rattle.wu_cli.proofs.findings.line_of_row.Goals as goal

pub returns : goal.returns
returns g c =
    Writes-after _ (g.W.Write.contents c.write_key.new.out) _ (key_text c.args.key.now) (codes " " ++ c.args.what.now ++ line_end) _ c.in_ok-write_key.ensures c.write_flushed.ensures.bytes

pub returns-in_err-write_key : goal.returns-in_err-write_key
returns-in_err-write_key g c =
    Writes-failed _ _ _ c.from_residual.result c.from_residual.ensures.0
    (AppendsFront-longer _ _ (key_text c.args.key.now) (codes " " ++ c.args.what.now ++ line_end) c.in_err-write_key.ensures)
