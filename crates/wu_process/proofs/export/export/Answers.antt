use Rattle.wu_process.proofs.export.export.Goals as goal

pub returns : goal.returns
returns g c = (c.make_export-made.result, rw c.as_str.ensures at c.make_export-made.ensures, rw c.place.ensures at c.report_made.ensures)
