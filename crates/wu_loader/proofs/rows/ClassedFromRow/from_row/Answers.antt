use Rattle.wu_schema.proofs.Words.{refl}
use Rattle.wu_loader.specs.declared.rows.Classed.{Classed}
use Rattle.wu_loader.proofs.RowLemmas.{column_unread}
use Rattle.wu_loader.proofs.rows.ClassedFromRow.from_row.Goals as goal

pub returns-in_err-workunit : goal.returns-in_err-workunit
returns-in_err-workunit c = column_unread (λ (v : Classed). v.workunit) c.args.row.now 0 (λ v is. tt) (λ v. refl) c.in_err-workunit.ensures c.from_residual.result c.from_residual.ensures.1

pub returns-in_err-class : goal.returns-in_err-class
returns-in_err-class c = column_unread (λ (v : Classed). v.class) c.args.row.now 1 (λ v is. is) (λ v. refl) c.in_err-class.ensures c.from_residual-in_err-class.result c.from_residual-in_err-class.ensures.1
