use Rattle.wu_process.proofs.backup.close.Goals as goal

pub returns-in-Err : goal.returns-in-Err
returns-in-Err g c = (c.in-Err._store, record { quiet = c.in-Err.ensures.err.0; cause = c.in-Err.ensures.err.1 })
