use Rattle.wu_schema.proofs.Words.{Text, number, refl, rules, ⊤}
use Rattle.wu_core.specs.Storable.{IsName}
use Rattle.wu_schema.specs.Reading.{IsStoredHost, host_row}
use Rattle.wu_schema.specs.declared.rows.HostSum.{HostSum}
use Rattle.wu_schema.proofs.ReadingLemmas.{column_unread, host_read}
use Rattle.wu_schema.proofs.rows.host_from.Goals as goal

pub returns-in_err-total : goal.returns-in_err-total
returns-in_err-total c = column_unread (λ (v : HostSum). v.total) host_row number IsStoredHost (λ _. ⊤) c.args.row.now 1 (λ v is. tt) (λ v. refl) _ c.in_err-total.ensures c.from_residual.result c.from_residual.ensures.1

pub returns-in_err-grants : goal.returns-in_err-grants
returns-in_err-grants c = column_unread (λ (v : HostSum). v.grants) host_row number IsStoredHost (λ _. ⊤) c.args.row.now 2 (λ v is. tt) (λ v. refl) _ c.in_err-grants.ensures c.from_residual-in_err-grants.result c.from_residual-in_err-grants.ensures.1

pub returns-in_err-name : goal.returns-in_err-name
returns-in_err-name c = column_unread (λ (v : HostSum). v.name) host_row Text IsStoredHost IsName c.args.row.now 0 (λ v is. is) (λ v. refl) _ c.in_err-name.ensures c.from_residual-in_err-name.result c.from_residual-in_err-name.ensures.1

pub returns : goal.returns
returns c = host_read c.args.row.now _ _ _ (search rules) c.in_ok-name.ensures c.in_ok-total.ensures c.in_ok-grants.ensures
