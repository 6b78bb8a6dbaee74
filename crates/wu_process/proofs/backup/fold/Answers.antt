use Rattle.std.proofs.Common.{inl, inr, refl}
use Rattle.wu_process.proofs.backup.fold.Goals as goal

pub returns-in-Ok-clause-folds : goal.returns-in-Ok-clause-folds
returns-in-Ok-clause-folds g c = inl (c.in-Ok.conn, c.in-Ok.ensures, c.check_and_close.ensures.folds)

pub returns-in-Err-clause-folds : goal.returns-in-Err-clause-folds
returns-in-Err-clause-folds g c = inr (c.in-Err.trouble, c.in-Err.ensures, refl)
