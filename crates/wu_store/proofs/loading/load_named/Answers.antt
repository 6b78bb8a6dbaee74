use Rattle.wu_schema.proofs.Words.{Text, Workunit, [], ap, bound_value, bytes_eq, refl, state, ◌∙◌, ◌∷◌}
use Rattle.wu_schema.specs.declared.table.ProjectTable.TheVariants as the_table
use Rattle.wu_schema.proofs.InsertEffect.{also, no_more}
use Rattle.wu_store.specs.Answers.{row_named}
use Rattle.wu_store.proofs.SelectTexts.{named_asked, named_fits}
use Rattle.wu_store.proofs.ReadAnswers.{named_found}
use Rattle.wu_store.proofs.AskLemmas.{asked_row, nothing_handed, question, reads_handed}
use Rattle.wu_store.proofs.LoadLemmas.{load_then}
use Rattle.wu_store.proofs.loading.load_named.Goals as goal

pub returns-in_err-row : goal.returns-in_err-row
returns-in_err-row g c =
    let q = c.in_err-row.ensures in
    let same = c.from_residual.ensures.1 in
    let it = asked_row g.S.Store (question the_table.Workunit (λ _. tt) named_asked named_fits (Text c.args.name.now ∷ []) refl (λ _. refl)) c.args.conn.now c.ask_row.new.conn _ (also (ap bound_value c.params-to_sql.ensures ∙ ap (λ t. Text t) c.as_str.ensures) no_more) (row_named c.args.name.now)
    (λ rows h world s. named_found (state g.S.Store c.args.conn.now) (state g.S.Store c.ask_row.new.conn) world s c.args.name.now rows h) _ q.asks q.opens q.shows q.fails q.told in
    record {
      formed = nothing_handed _ _ same _;
      reads = reads_handed g.S.Store _ _ _ _ same it (λ other told world known. told) (λ world stands can. tt);
    }

pub returns : goal.returns
returns g c =
    let q = c.in_ok-row.ensures in
    let it = asked_row g.S.Store (question the_table.Workunit (λ _. tt) named_asked named_fits (Text c.args.name.now ∷ []) refl (λ _. refl)) c.args.conn.now c.ask_row.new.conn _ (also (ap bound_value c.params-to_sql.ensures ∙ ap (λ t. Text t) c.as_str.ensures) no_more) (row_named c.args.name.now)
    (λ rows h world s. named_found (state g.S.Store c.args.conn.now) (state g.S.Store c.ask_row.new.conn) world s c.args.name.now rows h) _ q.asks q.opens q.shows q.fails q.told in
    record {
      formed = c.whole.ensures.formed;
      reads = load_then g.S.Store _ _ _ (λ (w : Workunit). bytes_eq w.name c.args.name.now) _ _ it c.whole.ensures.reads;
    }
