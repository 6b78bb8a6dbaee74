use Rattle.wu_schema.proofs.Words.{refl}
use Rattle.wu_loader.specs.declared.rows.ProjectRow.{ProjectRow}
use Rattle.wu_loader.proofs.RowLemmas.{column_unread}
use Rattle.wu_loader.proofs.rows.ProjectRowFromRow.from_row.Goals as goal

pub returns-in_err-one : goal.returns-in_err-one
returns-in_err-one c = column_unread (λ (p : ProjectRow). 1) c.args.row.now 0 (λ p is. tt) (λ t. refl) c.in_err-one.ensures c.from_residual.result c.from_residual.ensures.1

pub returns-in_err-version : goal.returns-in_err-version
returns-in_err-version c = column_unread (λ (p : ProjectRow). p.version) c.args.row.now 1 (λ p is. tt) (λ t. refl) c.in_err-version.ensures c.from_residual-in_err-version.result c.from_residual-in_err-version.ensures.1

pub returns-in_err-next_number : goal.returns-in_err-next_number
returns-in_err-next_number c = column_unread (λ (p : ProjectRow). p.next_number) c.args.row.now 2 (λ p is. tt) (λ t. refl) c.in_err-next_number.ensures c.from_residual-in_err-next_number.result c.from_residual-in_err-next_number.ensures.1
