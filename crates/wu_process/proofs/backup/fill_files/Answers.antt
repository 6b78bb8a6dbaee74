use Rattle.wu_process.proofs.BackupLemmas.{filled_with}
use Rattle.wu_process.proofs.backup.fill_files.Goals as goal

pub returns-in-Ok : goal.returns-in-Ok
returns-in-Ok c = filled_with c.args.world _ c.in-Ok.conn (c.new.ensures.empty, c.new-2.ensures.empty) c.in-Ok.ensures c.fill_and_close.result c.fill_and_close.ensures
