use Rattle.wu_schema.proofs.Words.{Blob, Text, Workunit, err_from_is_err_and, number, refl, rules, workunit_row, ⊤}
use Rattle.wu_core.specs.Storable.{IsInput, IsName, IsStoredWorkunit}
use Rattle.wu_schema.proofs.ReadingLemmas.{column_unread, workunit_read, workunit_unread}
use Rattle.wu_schema.proofs.rows.workunit_from.Goals as goal

pub returns-in_err-progress : goal.returns-in_err-progress
returns-in_err-progress c =
    let p = err_from_is_err_and c.from_residual-in_err-progress.result c.from_residual-in_err-progress.ensures.1 in rw (p.1, p.2) (workunit_unread c.args.row.now _ c.in_err-progress.ensures)

pub returns : goal.returns
returns c = rw c.new.ensures (workunit_read c.args.row.now _ _ _ _ _ (search rules) c.in_ok-number.ensures c.in_ok-name.ensures c.in_ok-params.ensures c.in_ok-input.ensures c.in_ok-progress.ensures)

pub returns-in_err-number : goal.returns-in_err-number
returns-in_err-number c = column_unread (λ (v : Workunit). v.number) workunit_row number IsStoredWorkunit (λ _. ⊤) c.args.row.now 0 (λ v is. tt) (λ v. refl) c.in_err-number.field-0.0 c.in_err-number.ensures c.from_residual.result c.from_residual.ensures.1

pub returns-in_err-input : goal.returns-in_err-input
returns-in_err-input c = column_unread (λ (v : Workunit). v.input) workunit_row Blob IsStoredWorkunit IsInput c.args.row.now 9 (λ v is. is.input) (λ v. refl) c.in_err-input.field-0.0 c.in_err-input.ensures c.from_residual-in_err-input.result c.from_residual-in_err-input.ensures.1

pub returns-in_err-name : goal.returns-in_err-name
returns-in_err-name c = column_unread (λ (v : Workunit). v.name) workunit_row Text IsStoredWorkunit IsName c.args.row.now 1 (λ v is. is.name) (λ v. refl) c.in_err-name.field-0.0 c.in_err-name.ensures c.from_residual-in_err-name.result c.from_residual-in_err-name.ensures.1
