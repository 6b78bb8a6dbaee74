use Rattle.wu_cli.proofs.findings.line_of_wrong.Goals as goal

pub returns : goal.returns
returns g c = rw c.form_of.ensures.name at c.write_flushed.ensures.bytes
