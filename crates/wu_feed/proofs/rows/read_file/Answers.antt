use Rattle.std.proofs.Common.{map, arith}
use Rattle.csv.specs.Records.{fields_of}
use Rattle.wu_feed.proofs.RowLemmas.{file_read, rows_of_file-few}
use Rattle.wu_feed.proofs.rows.read_file.Goals as goal

pub returns : goal.returns
returns g c =
    let row_of = g.R.Row.row_of in
    let names = g.R.Row.names in
    let gave = file_read row_of names c.args.file.now (map fields_of c.in_ok-records.records.items) c.read_records.result (omega arith) c.in_ok-records.ensures.found (rw c.as_slice.ensures.value at c.read_records.ensures.exact) in
    record { exact = gave; long = λ over. absurd (omega arith); few = rows_of_file-few row_of names c.args.file.now c.read_records.result gave }
