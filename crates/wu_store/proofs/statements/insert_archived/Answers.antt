use Rattle.wu_schema.proofs.Words.{Blob, Text, ap, archived_cells, bound_value, number, ◌∙◌, ◌∷◌, ◌≡◌}
use Rattle.wu_schema.specs.Made.{archived_table}
use Rattle.wu_store.proofs.InsertTexts.{archived_fits, archived_put}
use Rattle.wu_schema.proofs.InsertEffect.{also, no_more}
use Rattle.wu_schema.proofs.CallLemmas.{ran_as}
use Rattle.wu_schema.proofs.OthersLemmas.{insert_spares, ours_archived}
use Rattle.wu_schema.specs.declared.table.ProjectTable.TheVariants as the_table
use Rattle.wu_schema.proofs.QueueLemmas.{queue_beside}
use Rattle.wu_store.proofs.ChangeLemmas.{bound_number_or_null, put_archived, sent_number}
use Rattle.wu_store.proofs.ListedLemmas.{stands_with_archived}
use Rattle.wu_store.proofs.statements.insert_archived.Goals as goal

pub returns : goal.returns
returns g c =
    let a = c.args.archived.now in
    let given : _ ≡ number c.args.seq ∷ archived_cells a = also (sent_number c.args.seq c.params-to_sql.ensures c.in_ok-seq.ensures.value c.in_ok-seq.ensures.within)
    (also (sent_number a.number c.params-to_sql-2.ensures c.in_ok-number.ensures.value c.in_ok-number.ensures.within)
    (also (ap bound_value c.params-to_sql-3.ensures ∙ ap (λ t. Text t) c.as_str.ensures)
    (also (ap bound_value c.params-to_sql-4.ensures ∙ ap number c.code.ensures)
    (also (ap bound_value c.params-to_sql-5.ensures ∙ bound_number_or_null a.canonical)
    (also (ap bound_value c.params-to_sql-6.ensures ∙ ap (λ t. Blob t) c.as_slice.ensures)
    (also (sent_number a.done_at c.params-to_sql-7.ensures c.seconds-done_at.ensures.value c.seconds-done_at.ensures.within) no_more)))))) in
    record {
      writes = c.execute.ensures.writes;
      makes = λ clean. ran_as _ _ archived_put.text _ _ given c.execute.result (c.execute.ensures.ran clean) (λ count ran world s. stands_with_archived _ _ world s c.args.seq a (put_archived _ _ world s c.args.seq a count ran));
      keeps = λ clean. ran_as _ _ archived_put.text _ _ given c.execute.result (c.execute.ensures.ran clean) (λ count ran world marked s q. queue_beside _ world s marked q _ the_table.Archived tt _ (put_archived _ _ world s c.args.seq a count ran));
      spares = λ clean. ran_as _ _ archived_put.text _ _ given c.execute.result (c.execute.ensures.ran clean) (insert_spares archived_table.0 archived_table.1 archived_put archived_fits (λ tree. ours_archived) _ _ _);
    }
