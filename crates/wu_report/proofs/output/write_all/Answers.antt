use Rattle.wu_report.proofs.WritingLemmas.{prints_until}
use Rattle.wu_report.proofs.output.write_all.Goals as goal

pub returns-in_err-write : goal.returns-in_err-write
returns-in_err-write g c =
    prints_until g.W.Write.contents g.T.Printed.text c.args.all.now c.loop-one.one-index c.one-item.result c.loop-one-test.true c.one-item.is _ _ _ c.loop-one.invariant
    c.in_err-write.field-0.0 c.from_residual.result c.from_residual.ensures.1 c.in_err-write.ensures
