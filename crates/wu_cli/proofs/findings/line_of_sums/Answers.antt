use Rattle.wu_cli.proofs.findings.line_of_sums.Goals as goal

pub returns : goal.returns
returns g c = rw c.as_str.ensures at c.write_flushed.ensures.bytes
