use Rattle.wu_schema.proofs.Words.{Archived, Blob, Text, archived_cells, number, number_or_null, refl, ⊤, ◌≤◌}
use Rattle.wu_core.specs.Limits.{last_moment}
use Rattle.wu_core.specs.Storable.{IsName, IsOutput, IsPlace, IsStoredArchived}
use Rattle.wu_schema.specs.Reading.{columns, mask_cell}
use Rattle.wu_schema.proofs.ReadingLemmas.{archived_cells_read, column_unread}
use Rattle.wu_schema.proofs.rows.placed_archived_from.Goals as goal

pub returns : goal.returns
returns c = archived_cells_read _ _ _ _ _ _ _ _ _ _ _ _ c.in_ok-number.ensures c.in_ok-name.ensures c.in_ok-error_mask.ensures c.in_ok-canonical.ensures c.in_ok-output.ensures c.in_ok-done_at.ensures

pub returns-in_err-number : goal.returns-in_err-number
returns-in_err-number c = column_unread (λ (v : Archived). v.number) archived_cells number IsStoredArchived (λ _. ⊤) (columns c.args.row.now 1 6) 0 (λ v is. tt) (λ v. refl) c.in_err-number.field-0.0 c.in_err-number.ensures c.from_residual.result c.from_residual.ensures.1

pub returns-in_err-error_mask : goal.returns-in_err-error_mask
returns-in_err-error_mask c = column_unread (λ (v : Archived). v.error_mask) archived_cells mask_cell IsStoredArchived (λ _. ⊤) (columns c.args.row.now 1 6) 2 (λ v is. tt) (λ v. refl) c.in_err-error_mask.field-0.0 c.in_err-error_mask.ensures c.from_residual-in_err-error_mask.result c.from_residual-in_err-error_mask.ensures.1

pub returns-in_err-canonical : goal.returns-in_err-canonical
returns-in_err-canonical c = column_unread (λ (v : Archived). v.canonical) archived_cells number_or_null IsStoredArchived IsPlace (columns c.args.row.now 1 6) 3 (λ v is. is.canonical) (λ v. refl) c.in_err-canonical.field-0.0 c.in_err-canonical.ensures c.from_residual-in_err-canonical.result c.from_residual-in_err-canonical.ensures.1

pub returns-in_err-done_at : goal.returns-in_err-done_at
returns-in_err-done_at c = column_unread (λ (v : Archived). v.done_at) archived_cells number IsStoredArchived (λ seconds. seconds ≤ last_moment) (columns c.args.row.now 1 6) 5 (λ v is. is.done_at) (λ v. refl) c.in_err-done_at.field-0.0 c.in_err-done_at.ensures c.from_residual-in_err-done_at.result c.from_residual-in_err-done_at.ensures.1

pub returns-in_err-output : goal.returns-in_err-output
returns-in_err-output c = column_unread (λ (v : Archived). v.output) archived_cells Blob IsStoredArchived IsOutput (columns c.args.row.now 1 6) 4 (λ v is. is.output) (λ v. refl) c.in_err-output.field-0.0 c.in_err-output.ensures c.from_residual-in_err-output.result c.from_residual-in_err-output.ensures.1

pub returns-in_err-name : goal.returns-in_err-name
returns-in_err-name c = column_unread (λ (v : Archived). v.name) archived_cells Text IsStoredArchived IsName (columns c.args.row.now 1 6) 1 (λ v is. is.name) (λ v. refl) c.in_err-name.field-0.0 c.in_err-name.ensures c.from_residual-in_err-name.result c.from_residual-in_err-name.ensures.1
