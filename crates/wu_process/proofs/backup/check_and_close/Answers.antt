use Rattle.wu_process.proofs.BackupLemmas.{folded_closes, folded_may}
use Rattle.wu_process.proofs.backup.check_and_close.Goals as goal

pub returns-clause-folds : goal.returns-clause-folds
returns-clause-folds g c = record {
  again = c.check_sound-checked.new.conn;
  checked = c.check_sound-checked.result;
  checks = c.check_sound-checked.ensures.checks;
  ends = folded_closes c.check_sound-checked.new.conn c.check_sound-checked.result c.close.result c.close.ensures c.into_folded.result c.into_folded.ensures;
}

pub returns-clause-may : goal.returns-clause-may
returns-clause-may g c = folded_may c.check_sound-checked.result c.close.result c.into_folded.result c.into_folded.ensures c.check_sound-checked.ensures.may
