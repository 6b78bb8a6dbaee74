use Rattle.wu_schema.proofs.Words.{[], number, refl, state, ◌∷◌}
use Rattle.wu_schema.specs.declared.table.ProjectTable.TheVariants as the_table
use Rattle.wu_schema.proofs.InsertEffect.{also, no_more}
use Rattle.wu_store.specs.Answers.{row_numbered}
use Rattle.wu_store.proofs.ChangeLemmas.{sent_number}
use Rattle.wu_store.proofs.SelectTexts.{numbered_asked, numbered_fits}
use Rattle.wu_store.proofs.ReadAnswers.{numbered_found}
use Rattle.wu_store.proofs.AskLemmas.{asked_row, question, reads_handed, reads_unkeyed, reads_if, reads_can}
use Rattle.wu_store.proofs.loading.numbered_row.Goals as goal

pub returns-in_err-key : goal.returns-in_err-key
returns-in_err-key g c =
    let key = c.in_err-key.ensures in
    let same = c.from_residual.ensures.1 in
    record {
      reads = reads_handed g.S.Store _ _ _ _ same (reads_unkeyed g.S.Store _ c.args.number _ key.refused key.beyond) (λ other told world. tt) (λ world stands low. low);
    }

pub returns : goal.returns
returns g c =
    let q = c.ask_row.ensures in
    let it = asked_row g.S.Store (question the_table.Workunit (λ _. tt) numbered_asked numbered_fits (number c.args.number ∷ []) refl (λ _. refl)) c.args.conn.now c.ask_row.new.conn _ (also (sent_number c.args.number c.params-to_sql.ensures c.in_ok-key.ensures.value c.in_ok-key.ensures.within) no_more) (row_numbered c.args.number)
    (λ rows h world s. numbered_found (state g.S.Store c.args.conn.now) (state g.S.Store c.ask_row.new.conn) world s c.args.number rows h) c.ask_row.result q.asks q.opens q.shows q.fails q.told in
    record { reads = reads_can (λ world stands low. tt) (reads_if (λ low. tt) it) }
