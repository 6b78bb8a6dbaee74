use Rattle.std.proofs.Common.{inl}
use Rattle.csv.specs.Records.{fields_of}
use Rattle.wu_feed.proofs.ReadLemmas.{passed_on}
use Rattle.wu_feed.proofs.RowLemmas.{above_2, all_rows, next_within, none_before, one_more, refused, row_within}
use Rattle.wu_feed.proofs.rows.read_rows.Goals as goal

pub loop-row-init : goal.loop-row-init
loop-row-init g c = record { numbered = above_2; read = rw c.new-items.ensures.items (none_before _) }

pub loop-row-preserved : goal.loop-row-preserved
loop-row-preserved g c =
    let within = row_within g.R.Row.row_of c.in_ok-item.item c.loop-row.number (fields_of c.row-item.result) c.in_ok-item.ensures.exact in
    record {
      numbered = next_within within;
      read = rw c.in_ok-push.ensures.items (one_more g.R.Row.row_of c.loop-row.items.items c.in_ok-item.item c.loop-row.number c.args.rows.now c.loop-row.row-index c.row-item.result _
          c.loop-row-test.true c.row-item.is c.in_ok-item.ensures.exact c.loop-row.invariant.read);
    }

pub returns-in_err-item : goal.returns-in_err-item
returns-in_err-item g c =
    let same = passed_on c.in_err-item.field-0.0 c.from_residual.result c.from_residual.ensures in
    rw same (refused g.R.Row.row_of c.loop-row.items.items c.in_err-item.field-0.0 c.loop-row.number c.args.rows.now c.loop-row.row-index c.row-item.result _
    c.loop-row-test.true c.row-item.is c.in_err-item.ensures.exact c.loop-row.invariant.read)

pub returns : goal.returns
returns g c = rw c.from_vec.ensures (inl (all_rows g.R.Row.row_of c.loop-row.items.items c.loop-row.number c.args.rows.now c.loop-row.row-index _ c.loop-row-test.false c.loop-row.invariant.read))
