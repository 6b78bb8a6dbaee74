use Rattle.wu_schema.proofs.Words.{Blob, ap, bound_value, instance_cells, number, state, ◌∙◌, ◌≡◌}
use Rattle.wu_schema.proofs.InsertEffect.{also, no_more}
use Rattle.wu_schema.proofs.CallLemmas.{ran_as}
use Rattle.wu_store.proofs.ChangeLemmas.{sent_number, bound_seconds, bound_text}
use Rattle.wu_store.proofs.statements.run_instance.Goals as goal

pub returns : goal.returns
returns g c =
    let i = c.args.instance.now in
    let given : _ ≡ instance_cells c.args.workunit c.args.n i = also (sent_number c.args.workunit c.params-to_sql.ensures c.in_ok-workunit.ensures.value c.in_ok-workunit.ensures.within)
    (also (ap bound_value c.params-to_sql-2.ensures)
    (also (ap bound_value c.params-to_sql-3.ensures ∙ ap number c.code.ensures)
    (also (ap bound_value c.params-to_sql-4.ensures ∙ ap number c.code-2.ensures)
    (also (ap bound_value c.params-to_sql-5.ensures ∙ ap number c.code-3.ensures)
    (also (ap bound_value c.params-to_sql-6.ensures ∙ ap number c.code-4.ensures)
    (also (ap bound_value c.params-to_sql-7.ensures ∙ bound_text _ _ i.host c.host_of-host.ensures)
    (also (ap bound_value c.params-to_sql-8.ensures ∙ bound_seconds _ i.sent_at c.seconds_of-sent_at.ensures)
    (also (ap bound_value c.params-to_sql-9.ensures ∙ bound_seconds _ i.deadline c.deadline_of-deadline.ensures)
    (also (ap bound_value c.params-to_sql-10.ensures ∙ bound_seconds _ i.received_at c.seconds_of-received_at.ensures)
    (also (ap bound_value c.params-to_sql-11.ensures ∙ ap (λ t. Blob t) c.as_slice.ensures) no_more)))))))))) in
    record {
      writes = c.execute.ensures.writes;
      ran = λ clean. ran_as (state g.S.Store c.args.tx.now.conn.now) (state g.S.Store c.execute.new.tx.conn.now) c.args.sql.now _ _ given c.execute.result (c.execute.ensures.ran clean) (λ count ran. (count, ran));
    }
