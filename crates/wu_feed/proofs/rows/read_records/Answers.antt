use Rattle.std.proofs.Common.{◌∙◌, refl, sym}
use Rattle.wu_feed.proofs.RowLemmas.{header_there, rows_below}
use Rattle.wu_feed.proofs.rows.read_records.Goals as goal

pub returns-in-len1-up : goal.returns-in-len1-up
returns-in-len1-up g c =
    let names = g.R.Row.names in
    let some = c.in-len1-up.len_at_least in
    let is = sym c.is_header.ensures ∙ c.if-is_header.true in
    record {
      exact = rows_below g.R.Row.row_of names c.args.records.now c.header-item.result c.read_rows.result some c.header-item.is is c.read_rows.ensures;
      header = λ no. cc (no, header_there names c.args.records.now c.header-item.result some c.header-item.is is);
    }

pub returns-in_default-clause-header : goal.returns-in_default-clause-header
returns-in_default-clause-header g c = rw c.fault_at.ensures (λ no. refl)
