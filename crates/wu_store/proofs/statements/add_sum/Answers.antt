use Rattle.wu_schema.proofs.Words.{Text, ap, bound_value, state, ◌∙◌, ◌≡◌}
use Rattle.wu_store.proofs.UpsertTexts.{upsert_text}
use Rattle.wu_schema.proofs.InsertEffect.{also, no_more}
use Rattle.wu_schema.proofs.CallLemmas.{ran_as}
use Rattle.wu_store.proofs.ChangeLemmas.{sent_number}
use Rattle.wu_store.proofs.CreditEffect.{credits_one, sum_cells}
use Rattle.wu_store.proofs.statements.add_sum.Goals as goal

pub returns-clause-credits : goal.returns-clause-credits
returns-clause-credits g c clean =
    let it = c.args.sum.now in
    let old = state g.S.Store c.args.tx.now.conn.now in
    let new = state g.S.Store c.execute.new.tx.conn.now in
    let given : _ ≡ sum_cells it = also (ap bound_value c.params-to_sql.ensures ∙ ap (λ t. Text t) c.as_str.ensures)
    (also (sent_number it.total c.params-to_sql-2.ensures c.in_ok-total.ensures.value c.in_ok-total.ensures.within)
    (also (sent_number it.grants c.params-to_sql-3.ensures c.in_ok-grants.ensures.value c.in_ok-grants.ensures.within) no_more)) in
    ran_as old new upsert_text _ _ given c.execute.result (c.execute.ensures.ran clean) (λ count ran. credits_one old new it count ran)
