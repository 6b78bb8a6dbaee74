use Rattle.wu_schema.proofs.Words.{Text, ap, bound_value, grant_cells, number, state, ◌∙◌, ◌∷◌, ◌≡◌}
use Rattle.wu_store.proofs.InsertTexts.{grant_put}
use Rattle.wu_schema.proofs.InsertEffect.{also, no_more}
use Rattle.wu_schema.proofs.CallLemmas.{ran_as}
use Rattle.wu_store.proofs.ChangeLemmas.{sent_number, puts_grant}
use Rattle.wu_store.proofs.statements.insert_grant.Goals as goal

pub returns-clause-puts : goal.returns-clause-puts
returns-clause-puts g c clean =
    let it = c.args.grant.now in
    let old = state g.S.Store c.args.tx.now.conn.now in
    let new = state g.S.Store c.execute.new.tx.conn.now in
    let given : _ ≡ number c.args.seq ∷ grant_cells it = also (sent_number c.args.seq c.params-to_sql.ensures c.in_ok-seq.ensures.value c.in_ok-seq.ensures.within)
    (also (sent_number it.workunit c.params-to_sql-2.ensures c.in_ok-workunit.ensures.value c.in_ok-workunit.ensures.within)
    (also (ap bound_value c.params-to_sql-3.ensures)
    (also (ap bound_value c.params-to_sql-4.ensures ∙ ap (λ t. Text t) c.as_str.ensures)
    (also (sent_number it.credit c.params-to_sql-5.ensures c.in_ok-credit.ensures.value c.in_ok-credit.ensures.within) no_more)))) in
    ran_as old new grant_put.text _ _ given c.execute.result (c.execute.ensures.ran clean) (λ count ran. puts_grant old new c.args.seq it count ran)
