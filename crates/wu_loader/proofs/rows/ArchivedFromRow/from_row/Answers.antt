use Rattle.wu_schema.proofs.Words.{archived_cells, refl, rules}
use Rattle.wu_core.specs.Storable.{IsStoredArchived}
use Rattle.wu_core.specs.declared.workunit.Archived.{Archived}
use Rattle.wu_loader.proofs.RowLemmas.{behind_place, column_unread}
use Rattle.wu_loader.proofs.rows.ArchivedFromRow.from_row.Goals as goal

pub returns-in_err-number_at : goal.returns-in_err-number_at
returns-in_err-number_at c = column_unread (λ (a : Archived). c.args.place) c.args.row.now 0 (λ a is. tt) (λ t. refl) c.in_err-number_at.ensures c.from_residual.result c.from_residual.ensures.1

pub returns : goal.returns
returns c =
    behind_place archived_cells IsStoredArchived c.args.row.now 6 c.args.place c.in_ok-number_at.field-0 c.placed_archived_from.result (search rules) (search rules) c.in_ok-number_at.ensures c.placed_archived_from.ensures
