use Rattle.wu_schema.proofs.Words.{number_or_null, refl, ⊤}
use Rattle.wu_core.specs.Storable.{IsMoment, IsPlace}
use Rattle.wu_schema.specs.Reading.{IsProgress, assimilate_cell, columns, file_delete_cell, mask_cell, progress_cells}
use Rattle.wu_schema.specs.declared.rows.Progress.{Progress}
use Rattle.wu_schema.proofs.ReadingLemmas.{column_unread}
use Rattle.wu_schema.proofs.rows.progress_from.Goals as goal

pub returns-in_err-mask_at : goal.returns-in_err-mask_at
returns-in_err-mask_at c = column_unread (λ (v : Progress). v.error_mask) progress_cells mask_cell IsProgress (λ _. ⊤) (columns c.args.row.now 10 5) 0 (λ v is. tt) (λ v. refl) c.in_err-mask_at.field-0.0 c.in_err-mask_at.ensures c.from_residual.result c.from_residual.ensures.1

pub returns-in_err-place_at : goal.returns-in_err-place_at
returns-in_err-place_at c = column_unread (λ (v : Progress). v.canonical) progress_cells number_or_null IsProgress IsPlace (columns c.args.row.now 10 5) 1 (λ v is. is.canonical) (λ v. refl) c.in_err-place_at.field-0.0 c.in_err-place_at.ensures c.from_residual-in_err-place_at.result c.from_residual-in_err-place_at.ensures.1

pub returns-in_err-assimilate_at : goal.returns-in_err-assimilate_at
returns-in_err-assimilate_at c = column_unread (λ (v : Progress). v.assimilate) progress_cells assimilate_cell IsProgress (λ _. ⊤) (columns c.args.row.now 10 5) 2 (λ v is. tt) (λ v. refl) c.in_err-assimilate_at.field-0.0 c.in_err-assimilate_at.ensures c.from_residual-in_err-assimilate_at.result c.from_residual-in_err-assimilate_at.ensures.1

pub returns-in_err-file_delete_at : goal.returns-in_err-file_delete_at
returns-in_err-file_delete_at c = column_unread (λ (v : Progress). v.file_delete) progress_cells file_delete_cell IsProgress (λ _. ⊤) (columns c.args.row.now 10 5) 3 (λ v is. tt) (λ v. refl) c.in_err-file_delete_at.field-0.0 c.in_err-file_delete_at.ensures c.from_residual-in_err-file_delete_at.result c.from_residual-in_err-file_delete_at.ensures.1

pub returns-in_err-moment_at : goal.returns-in_err-moment_at
returns-in_err-moment_at c = column_unread (λ (v : Progress). v.done_at) progress_cells number_or_null IsProgress IsMoment (columns c.args.row.now 10 5) 4 (λ v is. is.stamped.moment) (λ v. refl) c.in_err-moment_at.field-0.0 c.in_err-moment_at.ensures c.from_residual-in_err-moment_at.result c.from_residual-in_err-moment_at.ensures.1
