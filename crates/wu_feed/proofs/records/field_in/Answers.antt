use Rattle.std.proofs.Common.{Bor, List, ℕ}
use Rattle.csv.specs.Records.{fields_of}
use Rattle.wu_feed.proofs.FieldLemmas.{is_there}
use Rattle.wu_feed.proofs.records.field_in.Goals as goal

pub unwrap-requires : goal.unwrap-requires
unwrap-requires c = is_there (λ (s : Bor (List ℕ)). s.now) c.get.result (fields_of c.args.row.now) c.args.place c.requires c.get.ensures.value
