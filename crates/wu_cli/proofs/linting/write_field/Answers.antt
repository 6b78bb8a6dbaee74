use Rattle.wu_cli.proofs.linting.write_field.Goals as goal

pub returns : goal.returns
returns g c = c.write_flushed.ensures.bytes
