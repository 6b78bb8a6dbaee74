use Rattle.std.proofs.Common.{Option, subst, sym}
use Rattle.std.specs.Prelude.{IfSome}
use Rattle.wu_core.specs.World.{World}
use Rattle.wu_process.specs.Backups.{IsRefillOf}
use Rattle.wu_process.proofs.BackupLemmas.{refill_of}
use Rattle.wu_process.proofs.backup.refill_files.Goals as goal

pub returns-in-Some : goal.returns-in-Some
returns-in-Some c =
    subst (λ (loaded : Option World). IfSome c.fill_files.result (IsRefillOf loaded)) (sym c.in-Some.is) (refill_of c.in-Some.world c.fill_files.result c.fill_files.ensures)
