use Rattle.wu_process_laws.proofs.BackedUp.{each_backup}
use Rattle.wu_process_laws.proofs.a_backup_holds_the_project.Goals as goal

pub returns : goal.returns
returns c = each_backup
