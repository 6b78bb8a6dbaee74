use Rattle.std.proofs.Common.{Err, ap, refl}
use Rattle.wu_process.proofs.RunLemmas.{does_opened}
use Rattle.wu_process.proofs.database.open_and_do.Goals as goal

pub returns-in-Ok : goal.returns-in-Ok
returns-in-Ok g c =
    does_opened g.O.Write.contents c.args.database.now c.args.work.now c.args.out.now c.perform_over-conn.new.out c.perform_over-conn.result.1 c.close_database.result
    (record {
      conn = c.in-Ok.conn;
      opened = c.in-Ok.ensures.opened;
      does = record {
        again = c.perform_over-conn.result.0;
        does = c.perform_over-conn.ensures.does;
        drives = c.perform_over-conn.ensures.drives;
        prints = c.perform_over-conn.ensures.prints;
        closed = c.close_database.ensures;
      };
    })

pub returns-in-Err : goal.returns-in-Err
returns-in-Err g c = record {
  unopened = c.in-Err.ensures.unopened;
  told = ap Err c.unopened-trouble.ensures;
  unwritten = refl;
}
