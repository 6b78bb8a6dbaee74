use Rattle.wu_process.proofs.export.make_export.Goals as goal

pub returns-in-Backup : goal.returns-in-Backup
returns-in-Backup g c = rw c.in-Backup.is (rw c.as_str.ensures at c.backup_of.ensures)

pub returns-in-Outputs : goal.returns-in-Outputs
returns-in-Outputs g c = rw c.in-Outputs.is c.outputs_of.ensures
