use Rattle.std.proofs.Common.{◌∙◌, sym}
use Rattle.csv.specs.Records.{fields_of}
use Rattle.wu_feed.proofs.FieldLemmas.{five_found}
use Rattle.wu_feed.proofs.records.five_fields.Goals as goal

pub returns-clause-found : goal.returns-clause-found
returns-clause-found c =
    five_found _ _ _ _ _ (fields_of c.args.row.now) (sym c.len.ensures ∙ c.if-len-ne5.false)
    c.field_in-first.ensures c.field_in-second.ensures c.field_in-third.ensures c.field_in.ensures c.field_in-2.ensures
