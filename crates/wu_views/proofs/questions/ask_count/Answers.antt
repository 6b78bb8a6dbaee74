use Rattle.sqlite.specs.Values.{bound}
use Rattle.wu_schema.proofs.Words.{Err, NotAProject, inl, inr, refl}
use Rattle.wu_store.proofs.AskLemmas.{asks_handed, asks_row, err_handed, fault_handed, fault_read, nothing_handed, opens_handed, opens_made}
use Rattle.wu_views.proofs.CountQuestions.{count_fails, count_refused, count_shown, none_fails}
use Rattle.wu_views.proofs.questions.ask_count.Goals as goal

pub returns-in_err-row : goal.returns-in_err-row
returns-in_err-row g c =
    let q = c.in_err-row.ensures in
    let same = c.from_residual.ensures.1 in
    record {
      asks = λ is. asks_handed g.S.Store c.args.conn.now c.ask_row.new.conn _ _ same (q.asks is);
      opens = λ is. opens_handed _ _ same g.S.Store c.ask_row.new.conn (q.opens is);
      shows = λ clean. nothing_handed _ _ same _;
      fails = λ clean. err_handed _ _ same _ (inr (inl (q.fails clean)));
      told = fault_handed _ _ same q.told;
    }

pub returns-in-Some : goal.returns-in-Some
returns-in-Some g c =
    let old = c.args.conn.now in
    let new = c.ask_row.new.conn in
    let sql = c.args.sql.now in
    let params = bound c.args.params.now in
    let q = c.in_ok-row.ensures in
    let row = c.in_ok-row.row in
    let r = c.count_at.result in
    let reads = c.count_at.ensures in
    let told = count_refused _ r reads in
    record {
      asks = λ is. asks_row g.S.Store old new row r told (q.asks is);
      opens = λ is. opens_made g.S.Store new r (q.opens is);
      shows = count_shown g.S.Store old new sql params row q.shows c.in-Some.row c.in-Some.is r reads;
      fails = count_fails g.S.Store old new sql params row q.shows c.in-Some.row c.in-Some.is r reads;
      told = fault_read r told;
    }

pub returns-in-None : goal.returns-in-None
returns-in-None g c =
    let q = c.in_ok-row.ensures in
    record {
      asks = λ is. asks_row g.S.Store _ _ _ (Err NotAProject) (inr refl) (q.asks is);
      opens = λ is clean. inr (q.opens is clean);
      shows = λ clean. tt;
      fails = none_fails g.S.Store c.args.conn.now c.ask_row.new.conn c.args.sql.now (bound c.args.params.now) _ q.shows c.in-None.is;
      told = inr (inr refl);
    }
