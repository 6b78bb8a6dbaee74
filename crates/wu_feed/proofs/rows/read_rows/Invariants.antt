use Rattle.std.proofs.Common.{◌≡◌, ◌≤◌, map, drop}
use Rattle.csv.specs.Records.{fields_of}
use Rattle.wu_feed.specs.Rows.{rows_from}
use Rattle.wu_feed.proofs.RowLemmas.{with_all}
use Rattle.wu_feed.proofs.rows.read_rows.Given as goal

abbrev pub invariant-loop-row : goal.invariant-loop-row
invariant-loop-row g l = record {
  numbered : l.number ≤ 1002;
  read : with_all l.items.items (rows_from g.R.Row.row_of l.number (map fields_of (drop l.row-index l.rows))) ≡ rows_from g.R.Row.row_of 2 (map fields_of l.rows);
}
