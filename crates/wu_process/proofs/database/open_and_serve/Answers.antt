use Rattle.wu_process.proofs.RunLemmas.{serves_opened}
use Rattle.wu_process.proofs.database.open_and_serve.Goals as goal

pub returns-in-Ok-clause-serves : goal.returns-in-Ok-clause-serves
returns-in-Ok-clause-serves g c =
    serves_opened g.O.Write.contents c.args.path.now c.args.out.now c.serve_over-conn.new.out (g.R.Read.remaining c.args.input.now) (g.R.Read.remaining c.serve_over-conn.new.input) c.serve_over-conn.result.1 c.close_database.result
    (record {
      conn = c.in-Ok.conn;
      opened = c.in-Ok.ensures.opened;
      again = c.serve_over-conn.result.0;
      serves = c.serve_over-conn.ensures.serves;
      closed = c.close_database.ensures;
    })
