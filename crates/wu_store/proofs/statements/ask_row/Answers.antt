use Rattle.wu_schema.proofs.Words.{Ok, arith}
use Rattle.wu_store.proofs.AskLemmas.{asks_handed, asks_made, err_handed, fault_handed, never_err, nothing_handed, opens_handed}
use Rattle.wu_store.proofs.statements.ask_row.Goals as goal

pub returns-in_err-rows : goal.returns-in_err-rows
returns-in_err-rows g c =
    let q = c.in_err-rows.ensures in
    let fault = c.in_err-rows.field-0.0 in
    let r = c.from_residual.result in
    let same = c.from_residual.ensures.1 in
    record {
      asks = λ is. asks_handed g.S.Store _ _ r fault same (q.asks is);
      opens = λ is. opens_handed r fault same g.S.Store c.query.new.conn (q.opens is);
      shows = λ clean. nothing_handed r fault same _;
      fails = λ clean. err_handed r fault same _ (q.fails clean);
      told = fault_handed r fault same q.told;
    }

pub returns : goal.returns
returns g c =
    let q = c.in_ok-rows.ensures in
    let rows = c.in_ok-rows.rows in
    record {
      asks = λ is. asks_made g.S.Store _ _ rows (Ok c.pop.result) (never_err _) (q.asks is);
      opens = q.opens;
      shows = λ clean. (rows.items, q.shows clean, record { rest = c.pop.new.self.items; parts = c.pop.ensures.items; some = λ some. c.pop.ensures.variant.1 (omega (arith, some, rows.ok.0)) });
      fails = λ clean. tt;
      told = tt;
    }
