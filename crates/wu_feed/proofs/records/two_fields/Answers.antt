use Rattle.std.proofs.Common.{◌∙◌, sym}
use Rattle.csv.specs.Records.{fields_of}
use Rattle.wu_feed.proofs.FieldLemmas.{not_two, two_found}
use Rattle.wu_feed.proofs.records.two_fields.Goals as goal

pub returns-then-len-ne2 : goal.returns-then-len-ne2
returns-then-len-ne2 c = not_two (fields_of c.args.row.now) (λ long. c.if-len-ne2.true (c.len.ensures ∙ long))

pub returns : goal.returns
returns c = two_found c.field_in.result.now c.field_in-2.result.now (fields_of c.args.row.now) (sym c.len.ensures ∙ c.if-len-ne2.false) c.field_in.ensures c.field_in-2.ensures
