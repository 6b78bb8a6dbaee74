use Rattle.wu_schema.proofs.Words.{ap, bound_value, number, state, ◌∙◌, ◌∷◌, ◌≡◌}
use Rattle.wu_schema.specs.Stored.{marks_cells}
use Rattle.wu_schema.proofs.InsertEffect.{also, no_more}
use Rattle.wu_schema.proofs.CallLemmas.{ran_as}
use Rattle.wu_store.proofs.ChangeLemmas.{sent_number, bound_seconds}
use Rattle.wu_store.proofs.QueueLemmas.{bound_flag}
use Rattle.wu_store.proofs.statements.run_marks.Goals as goal

pub returns : goal.returns
returns g c =
    let m = c.args.marks.now in
    let given : _ ≡ number c.args.workunit ∷ marks_cells m = also (sent_number c.args.workunit c.params-to_sql.ensures c.in_ok-workunit.ensures.value c.in_ok-workunit.ensures.within)
    (also (ap bound_value c.params-to_sql-2.ensures ∙ bound_seconds _ m.wake c.in_ok-wake.ensures)
    (also (ap bound_value c.params-to_sql-3.ensures ∙ bound_flag m.to_validate)
    (also (ap bound_value c.params-to_sql-4.ensures ∙ bound_flag m.to_assimilate)
    (also (ap bound_value c.params-to_sql-5.ensures ∙ bound_flag m.to_delete)
    (also (ap bound_value c.params-to_sql-6.ensures ∙ bound_seconds _ m.purge_from c.seconds_of-purge_from.ensures) no_more))))) in
    record {
      writes = c.execute.ensures.writes;
      ran = λ clean. ran_as (state g.S.Store c.args.tx.now.conn.now) (state g.S.Store c.execute.new.tx.conn.now) c.args.sql.now _ _ given c.execute.result (c.execute.ensures.ran clean) (λ count ran. (count, ran));
    }
