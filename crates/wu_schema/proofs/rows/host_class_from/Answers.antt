use Rattle.wu_schema.proofs.Words.{Text, number, refl, rules}
use Rattle.wu_core.specs.Storable.{IsClass, IsName}
use Rattle.wu_core.specs.declared.workunit.HostClass.{HostClass}
use Rattle.wu_schema.specs.Reading.{IsStoredHostClass}
use Rattle.wu_schema.specs.Stored.{class_cells}
use Rattle.wu_schema.proofs.ReadingLemmas.{column_unread, host_class_read}
use Rattle.wu_schema.proofs.rows.host_class_from.Goals as goal

pub returns-in_err-class : goal.returns-in_err-class
returns-in_err-class c = column_unread (λ (v : HostClass). v.class) class_cells number IsStoredHostClass IsClass c.args.row.now 1 (λ v is. is.class) (λ v. refl) _ c.in_err-class.ensures c.from_residual.result c.from_residual.ensures.1

pub returns-in_err-host : goal.returns-in_err-host
returns-in_err-host c = column_unread (λ (v : HostClass). v.host) class_cells Text IsStoredHostClass IsName c.args.row.now 0 (λ v is. is.host) (λ v. refl) _ c.in_err-host.ensures c.from_residual-in_err-host.result c.from_residual-in_err-host.ensures.1

pub returns : goal.returns
returns c = host_class_read c.args.row.now _ _ (search rules) c.in_ok-host.ensures c.in_ok-class.ensures
