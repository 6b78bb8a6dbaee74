use Rattle.std.proofs.Common.{◌∙◌, sym}
use Rattle.csv.specs.Records.{fields_of}
use Rattle.wu_feed.proofs.FieldLemmas.{three_found}
use Rattle.wu_feed.proofs.records.three_fields.Goals as goal

pub returns-clause-found : goal.returns-clause-found
returns-clause-found c = three_found _ _ _ (fields_of c.args.row.now) (sym c.len.ensures ∙ c.if-len-ne3.false) c.field_in.ensures c.field_in-2.ensures c.field_in-3.ensures
