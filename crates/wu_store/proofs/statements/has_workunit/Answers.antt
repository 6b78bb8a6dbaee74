use Rattle.wu_schema.proofs.Words.{Text, [], ap, bound_value, not, refl, state, ◌==◌, ◌∙◌, ◌∷◌}
use Rattle.wu_store.specs.Answers.{has_name}
use Rattle.wu_schema.specs.declared.table.ProjectTable.TheVariants as the_table
use Rattle.wu_store.proofs.SelectTexts.{workunit_asked, workunit_fits}
use Rattle.wu_store.proofs.AskLemmas.{question, asked_any, any_err}
use Rattle.wu_schema.proofs.InsertEffect.{also, no_more}
use Rattle.wu_store.proofs.ReadAnswers.{workunit_found}
use Rattle.wu_store.proofs.statements.has_workunit.Goals as goal

pub returns-in_err-rows : goal.returns-in_err-rows
returns-in_err-rows g c =
    let q = c.in_err-rows.ensures in
    let given = also (ap bound_value c.params-to_sql.ensures ∙ ap (λ t. Text t) c.as_str.ensures) no_more in
    let it = any_err g.S.Store (question the_table.Workunit (λ _. tt) workunit_asked workunit_fits (Text c.args.name.now ∷ []) refl (λ _. refl)) c.args.conn.now c.query.new.conn _ given (has_name c.args.name.now) c.in_err-rows.field-0.0 q.asks q.opens q.fails q.told c.from_residual.result c.from_residual.ensures.1 in
    record { reads = it }

pub returns : goal.returns
returns g c =
    let q = c.in_ok-rows.ensures in
    let given = also (ap bound_value c.params-to_sql.ensures ∙ ap (λ t. Text t) c.as_str.ensures) no_more in
    let it = asked_any g.S.Store (question the_table.Workunit (λ _. tt) workunit_asked workunit_fits (Text c.args.name.now ∷ []) refl (λ _. refl)) c.args.conn.now c.query.new.conn _ given (has_name c.args.name.now)
    (λ rows h world s. workunit_found (state g.S.Store c.args.conn.now) (state g.S.Store c.query.new.conn) world s c.args.name.now rows h) c.in_ok-rows.rows q.asks q.opens q.shows _ (ap not c.is_empty.ensures ∙ ap (λ n. not (n == 0)) c.in_ok-rows.rows.ok.0) in
    record { reads = it }
