use Rattle.wu_schema.proofs.Words.{refl, rules}
use Rattle.wu_loader.specs.declared.rows.Placed.{Placed}
use Rattle.wu_loader.proofs.RowLemmas.{column_unread, placed_reads}
use Rattle.wu_loader.proofs.rows.PlacedFromRow.from_row.Goals as goal

pub returns-in_err-workunit : goal.returns-in_err-workunit
returns-in_err-workunit c = column_unread (λ (p : Placed). p.workunit) c.args.row.now 0 (λ p is. tt) (λ t. refl) c.in_err-workunit.ensures c.from_residual.result c.from_residual.ensures.1

pub returns-in_err-n : goal.returns-in_err-n
returns-in_err-n c = column_unread (λ (p : Placed). p.n) c.args.row.now 1 (λ p is. tt) (λ t. refl) c.in_err-n.ensures c.from_residual-in_err-n.result c.from_residual-in_err-n.ensures.1

pub returns : goal.returns
returns c = placed_reads c.args.row.now _ (search rules) c.in_ok-workunit.ensures c.in_ok-n.ensures c.in_ok-instance.ensures
