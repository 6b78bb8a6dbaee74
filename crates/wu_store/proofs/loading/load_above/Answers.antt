use Rattle.wu_schema.proofs.Words.{Workunit, [], number, refl, state, ◌∷◌, nat_lt}
use Rattle.wu_schema.specs.declared.table.ProjectTable.TheVariants as the_table
use Rattle.wu_schema.proofs.InsertEffect.{also, no_more}
use Rattle.wu_store.specs.Answers.{row_above}
use Rattle.wu_store.proofs.ChangeLemmas.{sent_number}
use Rattle.wu_store.proofs.SelectTexts.{above_asked, above_fits}
use Rattle.wu_store.proofs.OrderAnswers.{above_found}
use Rattle.wu_store.proofs.AskLemmas.{asked_row, nothing_handed, question, reads_can, reads_handed, reads_unkeyed, reads_if}
use Rattle.wu_store.proofs.LoadLemmas.{early_then}
use Rattle.wu_store.proofs.loading.load_above.Goals as goal

pub returns-in_err-key : goal.returns-in_err-key
returns-in_err-key g c =
    let key = c.in_err-key.ensures in
    let same = c.from_residual.ensures.1 in
    record {
      formed = nothing_handed _ _ same _;
      reads = reads_handed g.S.Store _ _ _ _ same (reads_unkeyed g.S.Store _ c.args.number _ key.refused key.beyond) (λ other told world early. told) (λ world stands can. can.1);
    }

pub returns-in_err-row : goal.returns-in_err-row
returns-in_err-row g c =
    let q = c.in_err-row.ensures in
    let same = c.from_residual-in_err-row.ensures.1 in
    let it = asked_row g.S.Store (question the_table.Workunit (λ _. tt) above_asked above_fits (number c.args.number ∷ []) refl (λ _. refl)) c.args.conn.now c.ask_row.new.conn _ (also (sent_number c.args.number c.params-to_sql.ensures c.in_ok-key.ensures.value c.in_ok-key.ensures.within) no_more) (row_above c.args.number)
    (λ rows h world s. above_found (state g.S.Store c.args.conn.now) (state g.S.Store c.ask_row.new.conn) world s c.args.number rows h) _ q.asks q.opens q.shows q.fails q.told in
    record {
      formed = nothing_handed _ _ same _;
      reads = reads_handed g.S.Store _ _ _ _ same (reads_if (λ low. tt) it) (λ other told world early. told) (λ world stands can. tt);
    }

pub returns : goal.returns
returns g c =
    let q = c.in_ok-row.ensures in
    let it = asked_row g.S.Store (question the_table.Workunit (λ _. tt) above_asked above_fits (number c.args.number ∷ []) refl (λ _. refl)) c.args.conn.now c.ask_row.new.conn _ (also (sent_number c.args.number c.params-to_sql.ensures c.in_ok-key.ensures.value c.in_ok-key.ensures.within) no_more) (row_above c.args.number)
    (λ rows h world s. above_found (state g.S.Store c.args.conn.now) (state g.S.Store c.ask_row.new.conn) world s c.args.number rows h) _ q.asks q.opens q.shows q.fails q.told in
    record {
      formed = c.loaded.ensures.formed;
      reads = reads_can (λ world stands can. can.2) (early_then g.S.Store _ _ _ (λ (w : Workunit). nat_lt c.args.number w.number) _ _ (reads_if (λ low. tt) it) c.loaded.ensures.reads);
    }
