use Rattle.std.proofs.Common.{sym, subst}
use Rattle.std.specs.Prelude.{IfSome}
use Rattle.wu_process.specs.Backups.{IsFilledInto}
use Rattle.wu_process.proofs.BackupLemmas.{filled_into}
use Rattle.wu_process.proofs.backup.fill_and_close.Goals as goal

pub returns-in-Some : goal.returns-in-Some
returns-in-Some g c =
    subst (λ files. IfSome files (IsFilledInto c.args.conn c.args.world)) (sym c.ok.ensures.value)
    (filled_into c.args.conn c.in-Some.conn c.args.world c.in-Some.ensures c.close.result c.close.ensures)
