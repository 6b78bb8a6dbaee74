use Rattle.wu_schema.proofs.Words.{Blob, number, refl, rules, ⊤}
use Rattle.wu_core.specs.Storable.{AreVerdicts}
use Rattle.wu_schema.specs.Reading.{HasStoredVerdicts, stored_import_row, verdicts_cell}
use Rattle.wu_schema.specs.declared.rows.StoredImport.{StoredImport}
use Rattle.wu_schema.proofs.ReadingLemmas.{column_unread, import_row_read}
use Rattle.wu_schema.proofs.rows.import_from.Goals as goal

pub returns-in_err-first_number : goal.returns-in_err-first_number
returns-in_err-first_number c = column_unread (λ (v : StoredImport). v.first_number) stored_import_row number (HasStoredVerdicts c.args.kind) (λ _. ⊤) c.args.row.now 2 (λ v is. tt) (λ v. refl) c.in_err-first_number.field-0.0 c.in_err-first_number.ensures c.from_residual.result c.from_residual.ensures.1

pub returns-in_err-template : goal.returns-in_err-template
returns-in_err-template c = column_unread (λ (v : StoredImport). v.template) stored_import_row Blob (HasStoredVerdicts c.args.kind) (λ _. ⊤) c.args.row.now 0 (λ v is. tt) (λ v. refl) c.in_err-template.field-0.0 c.in_err-template.ensures c.from_residual-in_err-template.result c.from_residual-in_err-template.ensures.1

pub returns-in_err-content : goal.returns-in_err-content
returns-in_err-content c = column_unread (λ (v : StoredImport). v.content) stored_import_row Blob (HasStoredVerdicts c.args.kind) (λ _. ⊤) c.args.row.now 1 (λ v is. tt) (λ v. refl) c.in_err-content.field-0.0 c.in_err-content.ensures c.from_residual-in_err-content.result c.from_residual-in_err-content.ensures.1

pub returns-in_err-verdicts : goal.returns-in_err-verdicts
returns-in_err-verdicts c = column_unread (λ (v : StoredImport). v.verdicts) stored_import_row verdicts_cell (HasStoredVerdicts c.args.kind) (AreVerdicts c.args.kind) c.args.row.now 3 (λ v is. is) (λ v. refl) c.in_err-verdicts.field-0.0 c.in_err-verdicts.ensures c.from_residual-in_err-verdicts.result c.from_residual-in_err-verdicts.ensures.1

pub returns : goal.returns
returns c = import_row_read c.args.kind c.args.row.now _ _ _ _ (search rules) c.in_ok-template.ensures c.in_ok-content.ensures c.in_ok-first_number.ensures c.in_ok-verdicts.ensures
