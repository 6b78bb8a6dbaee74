use Rattle.wu_cli.proofs.findings.write_sound.Goals as goal

pub returns : goal.returns
returns g c = c.write_flushed.ensures
