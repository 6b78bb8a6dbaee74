use Rattle.wu_schema.proofs.Words.{refl}
use Rattle.wu_core.specs.declared.workunit.Grant.{Grant}
use Rattle.wu_loader.proofs.RowLemmas.{column_unread}
use Rattle.wu_loader.proofs.rows.GrantFromRow.from_row.Goals as goal

pub returns-in_err-number_at : goal.returns-in_err-number_at
returns-in_err-number_at c = column_unread (λ (g : Grant). c.args.place) c.args.row.now 0 (λ g is. tt) (λ t. refl) c.in_err-number_at.ensures c.from_residual.result c.from_residual.ensures.1

pub returns-in_err-workunit : goal.returns-in_err-workunit
returns-in_err-workunit c = column_unread (λ (g : Grant). g.workunit) c.args.row.now 1 (λ g is. tt) (λ t. refl) c.in_err-workunit.ensures c.from_residual-in_err-workunit.result c.from_residual-in_err-workunit.ensures.1

pub returns-in_err-n : goal.returns-in_err-n
returns-in_err-n c = column_unread (λ (g : Grant). g.n) c.args.row.now 2 (λ g is. is.n) (λ t. refl) c.in_err-n.ensures c.from_residual-in_err-n.result c.from_residual-in_err-n.ensures.1

pub returns-in_err-credit : goal.returns-in_err-credit
returns-in_err-credit c = column_unread (λ (g : Grant). g.credit) c.args.row.now 4 (λ g is. tt) (λ t. refl) c.in_err-credit.ensures c.from_residual-in_err-credit.result c.from_residual-in_err-credit.ensures.1

pub returns-in_err-host : goal.returns-in_err-host
returns-in_err-host c = column_unread (λ (g : Grant). g.host) c.args.row.now 3 (λ g is. is.host) (λ t. refl) c.in_err-host.ensures c.from_residual-in_err-host.result c.from_residual-in_err-host.ensures.1
