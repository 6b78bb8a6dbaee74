use Rattle.sqlite.specs.Values.{bound}
use Rattle.wu_schema.proofs.AskingLemmas.{asks_failed, asks_shown, fault_told, opens_failed, opens_shown}
use Rattle.wu_schema.proofs.Words.{subst, sym}
use Rattle.wu_schema.specs.Faults.{IsStoreFault}
use Rattle.wu_schema.proofs.asking.query.Goals as goal

pub returns-in-Ok : goal.returns-in-Ok
returns-in-Ok g c =
    let q = c.in-Ok.ensures in
    let params = bound c.args.params.now in
    record {
      asks = λ it. asks_shown g.S.Store c.args.sql.now it params c.args.conn.now c.query_all.new.self q.mode q.survives c.in-Ok.rows q.ok;
      opens = λ it. opens_shown g.S.Store c.args.sql.now it params c.args.conn.now c.query_all.new.self q.mode q.survives c.in-Ok.rows q.ok;
      shows = q.ok;
      fails = λ clean. tt;
      told = tt;
    }

pub returns-in-Err : goal.returns-in-Err
returns-in-Err g c =
    let q = c.in-Err.ensures in
    let params = bound c.args.params.now in
    let is = c.fault_of.ensures in
    record {
      asks = λ it. asks_failed g.S.Store c.args.sql.now it params c.args.conn.now c.query_all.new.self q.mode q.survives c.in-Err.error c.fault_of.result is q.err;
      opens = λ it. opens_failed g.S.Store c.args.sql.now it params c.args.conn.now c.query_all.new.self q.mode q.survives c.in-Err.error c.fault_of.result is q.err;
      shows = λ clean. tt;
      fails = λ clean. (c.in-Err.error, is, q.err clean);
      told = subst IsStoreFault (sym is) (fault_told c.in-Err.error);
    }
