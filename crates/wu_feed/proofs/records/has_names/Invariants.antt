use Rattle.std.proofs.Common.{◌≡◌, map, drop}
use Rattle.csv.specs.Records.{fields_of}
use Rattle.wu_feed.specs.Rows.{is_header}
use Rattle.wu_feed.proofs.records.has_names.Given as goal

abbrev pub invariant-loop-place : goal.invariant-loop-place
invariant-loop-place l = is_header (map (λ name. name.now) (drop l.place l.names)) (drop l.place (fields_of l.row)) ≡ is_header (map (λ name. name.now) l.names) (fields_of l.row)
