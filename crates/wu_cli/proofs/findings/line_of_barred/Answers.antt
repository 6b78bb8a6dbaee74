use Rattle.wu_cli.proofs.findings.line_of_barred.Goals as goal

pub returns : goal.returns
returns g c = c.write_flushed.ensures.bytes
