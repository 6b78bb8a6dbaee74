use Rattle.wu_schema.proofs.Words.{Blob, Text, ap, bound_value, number, state, workunit_row, ◌∙◌, ◌≡◌}
use Rattle.wu_schema.proofs.InsertEffect.{also, no_more}
use Rattle.wu_schema.proofs.CallLemmas.{ran_as}
use Rattle.wu_store.proofs.ChangeLemmas.{sent_number, bound_number_or_null, bound_seconds}
use Rattle.wu_store.proofs.statements.run_workunit.Goals as goal

pub returns : goal.returns
returns g c =
    let w = c.args.workunit.now in
    let given : _ ≡ workunit_row w = also (sent_number w.number c.params-to_sql.ensures c.in_ok-number.ensures.value c.in_ok-number.ensures.within)
    (also (ap bound_value c.params-to_sql-2.ensures ∙ ap (λ t. Text t) c.as_str.ensures)
    (also (ap bound_value c.params-to_sql-3.ensures ∙ ap number c.min_quorum.ensures.value)
    (also (ap bound_value c.params-to_sql-4.ensures ∙ ap number c.target_nresults.ensures.value)
    (also (ap bound_value c.params-to_sql-5.ensures ∙ ap number c.max_error_results.ensures.value)
    (also (ap bound_value c.params-to_sql-6.ensures ∙ ap number c.max_total_results.ensures.value)
    (also (ap bound_value c.params-to_sql-7.ensures ∙ ap number c.max_success_results.ensures.value)
    (also (ap bound_value c.params-to_sql-8.ensures ∙ ap number c.delay_bound.ensures.value)
    (also (ap bound_value c.params-to_sql-9.ensures ∙ ap number c.credit.ensures.value)
    (also (ap bound_value c.params-to_sql-10.ensures ∙ ap (λ t. Blob t) c.as_slice.ensures)
    (also (ap bound_value c.params-to_sql-11.ensures ∙ ap number c.code.ensures)
    (also (ap bound_value c.params-to_sql-12.ensures ∙ bound_number_or_null w.canonical)
    (also (ap bound_value c.params-to_sql-13.ensures ∙ ap number c.code-2.ensures)
    (also (ap bound_value c.params-to_sql-14.ensures ∙ ap number c.code-3.ensures)
    (also (ap bound_value c.params-to_sql-15.ensures ∙ bound_seconds _ w.done_at c.seconds_of-done_at.ensures) no_more)))))))))))))) in
    record {
      writes = c.execute.ensures.writes;
      ran = λ clean. ran_as (state g.S.Store c.args.tx.now.conn.now) (state g.S.Store c.execute.new.tx.conn.now) c.args.sql.now _ _ given c.execute.result (c.execute.ensures.ran clean) (λ count ran. (count, ran));
    }
