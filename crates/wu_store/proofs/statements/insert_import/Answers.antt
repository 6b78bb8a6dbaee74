use Rattle.wu_schema.proofs.Words.{Text, ap, bound_value, import_cells, number, ◌∙◌, ◌≡◌}
use Rattle.wu_schema.specs.Made.{import_table}
use Rattle.wu_store.specs.Changing.{import_of_change}
use Rattle.wu_store.proofs.InsertTexts.{import_fits, import_put}
use Rattle.wu_schema.proofs.InsertEffect.{also, no_more}
use Rattle.wu_schema.proofs.CallLemmas.{ran_as}
use Rattle.wu_schema.proofs.OthersLemmas.{insert_spares, ours_import}
use Rattle.wu_schema.specs.declared.table.ProjectTable.TheVariants as the_table
use Rattle.wu_schema.proofs.QueueLemmas.{queue_beside}
use Rattle.wu_store.proofs.ChangeLemmas.{put_import, sent_number}
use Rattle.wu_store.proofs.StandsWith.{stands_with_import}
use Rattle.wu_store.proofs.statements.insert_import.Goals as goal

pub returns : goal.returns
returns g c =
    let i = import_of_change c.args.import.now in
    let given : _ ≡ import_cells i = also (ap bound_value c.params-to_sql.ensures ∙ ap number (c.code.ensures))
    (also (ap bound_value c.params-to_sql-2.ensures ∙ ap (λ t. Text t) c.as_str.ensures)
    (also (ap bound_value c.params-to_sql-3.ensures)
    (also (ap bound_value c.params-to_sql-4.ensures)
    (also (sent_number i.first_number c.params-to_sql-5.ensures c.in_ok-first_number.ensures.value c.in_ok-first_number.ensures.within)
    (also (ap bound_value c.params-to_sql-6.ensures ∙ ap (λ t. Text t) c.digits.ensures) no_more))))) in
    record {
      writes = c.execute.ensures.writes;
      makes = λ clean. ran_as _ _ import_put.text _ _ given c.execute.result (c.execute.ensures.ran clean) (λ count ran world s kept. stands_with_import _ _ world s i kept (put_import _ _ world s i count ran));
      keeps = λ clean. ran_as _ _ import_put.text _ _ given c.execute.result (c.execute.ensures.ran clean) (λ count ran world marked s q. queue_beside _ world s marked q _ the_table.Import tt _ (put_import _ _ world s i count ran));
      spares = λ clean. ran_as _ _ import_put.text _ _ given c.execute.result (c.execute.ensures.ran clean) (insert_spares import_table.0 import_table.1 import_put import_fits (λ tree. ours_import) _ _ _);
    }
