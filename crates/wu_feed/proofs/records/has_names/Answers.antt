use Rattle.std.proofs.Common.{◌∙◌, refl, subst, sym, ◌<◌}
use Rattle.csv.specs.Records.{fields_of}
use Rattle.wu_feed.proofs.FieldLemmas.{all_compared, name_compared, other_number}
use Rattle.wu_feed.proofs.records.has_names.Goals as goal

pub returns-then-len-names : goal.returns-then-len-names
returns-then-len-names c = other_number c.args.names.now (fields_of c.args.row.now) (λ same. c.if-len-names.true (c.len.ensures ∙ same))

pub loop-place-init : goal.loop-place-init
loop-place-init c = refl

pub field_in-requires : goal.field_in-requires
field_in-requires c = subst (λ n. c.loop-place.place < n) (sym c.if-len-names.false ∙ c.len.ensures) c.loop-place-test.true

pub returns-then-ne : goal.returns-then-ne
returns-then-ne c =
    (name_compared c.args.names.now (fields_of c.args.row.now) c.loop-place.place _ c.field_in.result.now _ c.loop-place-test.true c.field_in.ensures c.loop-place.invariant).0
    (sym c.ne.ensures ∙ c.if-ne.true)

pub loop-place-preserved : goal.loop-place-preserved
loop-place-preserved c =
    (name_compared c.args.names.now (fields_of c.args.row.now) c.loop-place.place _ c.field_in.result.now _ c.loop-place-test.true c.field_in.ensures c.loop-place.invariant).1
    (sym c.ne.ensures ∙ c.if-ne.false)

pub returns : goal.returns
returns c = all_compared c.args.names.now (fields_of c.args.row.now) c.loop-place.place _ c.loop-place-test.false (sym c.len.ensures ∙ c.if-len-names.false) c.loop-place.invariant
