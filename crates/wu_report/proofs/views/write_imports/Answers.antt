use Rattle.std.proofs.Common.{◌∙◌, ap, flat_map}
use Rattle.wu_report.proofs.LookLemmas.{looked_refused, looked_written}
use Rattle.wu_report.specs.Texts.{import_detail}
use Rattle.wu_report.proofs.views.write_imports.Goals as goal

pub returns : goal.returns
returns g c =
    looked_written g.W.Write.contents c.args.project.now c.imports_named.new.self (λ db world knows stands. stands.refines) _ c.in_ok-lines.lines c.in_ok-lines.ensures c.args.out.now c.write_details.new.out _ c.write_details.result
    (λ world is. ap (flat_map import_detail) (c.as_slice.ensures.value ∙ is)) c.write_details.ensures

pub returns-in_err-lines : goal.returns-in_err-lines
returns-in_err-lines g c =
    looked_refused g.W.Write.contents c.args.project.now c.imports_named.new.self (λ db world knows stands. stands.refines) _ c.args.out.now c.in_err-lines.field-0.0 c.from_residual.result c.from_residual.ensures.0 c.from_residual.ensures.1 c.in_err-lines.ensures
