use Rattle.std.proofs.Common.{inl, inr, refl}
use Rattle.wu_process.proofs.outputs.keep_of_files.Goals as goal

pub returns-in-Ok : goal.returns-in-Ok
returns-in-Ok g c = inl (record { conn = c.in-Ok.conn; opened = c.in-Ok.ensures; keeps_all = c.keep_and_drop.ensures })

pub returns-in-Err : goal.returns-in-Err
returns-in-Err g c = inr (c.in-Err.trouble, c.in-Err.ensures, refl)
