use Rattle.std.proofs.Common.{inl, inr, refl}
use Rattle.wu_process.proofs.check.check_files.Goals as goal

pub returns-in-Ok : goal.returns-in-Ok
returns-in-Ok g c = inl (record { conn = c.in-Ok.conn; opened = c.in-Ok.ensures; checks = c.check_and_drop.ensures })

pub returns-in-Err : goal.returns-in-Err
returns-in-Err g c = inr (record { trouble = c.in-Err.trouble; unopened = c.in-Err.ensures; told = refl; unwritten = refl })
