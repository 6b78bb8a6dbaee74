use Rattle.wu_process.proofs.database.open_and_perform.Goals as goal

pub returns-in-Ok-bar : goal.returns-in-Ok-bar
returns-in-Ok-bar g c =
    rw c.in-Ok.is (record {
      mid = c.open_and_do-done.new.out;
      first = c.open_and_do-done.result.0;
      does = c.open_and_do-done.ensures;
      exports = c.export_if_done.ensures;
    })
