use Rattle.std.proofs.Common.{◌≡◌, ◌∙◌, ◌<◌, ◌∷◌, [], ap, inl, map, length, string_bytes, Bor, Ok, arith}
use Rattle.std.proofs.lemmas.Bool.Decides.{nat_tests}
use Rattle.std.proofs.lemmas.List.{map-append}
use Rattle.csv.specs.Records.{fields_of}
use Rattle.csv.specs.declared.record.ByteRecord.{ByteRecord}
use Rattle.wu_feed.specs.Scripts.{words_among}
use Rattle.wu_feed.proofs.ScriptLemmas.{all_words, bad_field, empty_field, no_words_before, one_word}
use Rattle.wu_feed.proofs.script.words_among.Goals as goal

pub loop-field-init : goal.loop-field-init
loop-field-init c =
    let start = c.into_iter-field-iterator.ensures.into_iter_gives in
    record { same_row = start.0; read = rw (start.1, c.new-words.ensures.items) (no_words_before (words_among (fields_of c.args.row.now))) }

pub loop-field-preserved-in_ok-push : goal.loop-field-preserved-in_ok-push
loop-field-preserved-in_ok-push c =
    let steps = c.in-Some.ensures.steps in
    let here = rw c.loop-field.invariant.same_row at steps.1 in
    let word = c.in-Ok.ensures.word in
    let long : 0 < length c.in-Some.field.now = rw (← word.0) (grind (arith, nat_tests)) in
    let front = map string_bytes c.loop-field.words.items in
    let text : string_bytes c.in_ok-from_str.field-0 ≡ c.in-Some.field.now = c.in_ok-from_str.ensures.ok ∙ word.0 in
    record {
      same_row = ap (λ (row : Bor ByteRecord). row.now) steps.0 ∙ c.loop-field.invariant.same_row;
      read = rw (steps.2, c.in_ok-push.ensures.items, map-append string_bytes c.loop-field.words.items (c.in_ok-from_str.field-0 ∷ []), text)
          (one_word front (fields_of c.args.row.now) c.loop-field.field-iterator.at c.in-Some.field.now _ here word.1 long c.loop-field.invariant.read);
    }

pub loop-field-preserved : goal.loop-field-preserved
loop-field-preserved c =
    let steps = c.in-Some.ensures.steps in
    let here = rw c.loop-field.invariant.same_row at steps.1 in
    let word = c.in-Ok.ensures.word in
    let short : length c.in-Some.field.now ≡ 0 = rw (← word.0) (grind (arith, nat_tests)) in
    record {
      same_row = ap (λ (row : Bor ByteRecord). row.now) steps.0 ∙ c.loop-field.invariant.same_row;
      read = rw steps.2 (empty_field (map string_bytes c.loop-field.words.items) (fields_of c.args.row.now) c.loop-field.field-iterator.at c.in-Some.field.now _ here word.1 short c.loop-field.invariant.read);
    }

pub returns-in-Err : goal.returns-in-Err
returns-in-Err c =
    let here = rw c.loop-field.invariant.same_row at c.in-Some.ensures.steps.1 in
    inl (ap Ok (bad_field (map string_bytes c.loop-field.words.items) (fields_of c.args.row.now) c.loop-field.field-iterator.at c.in-Some.field.now c.in-Err.cause _ here c.in-Err.ensures.cause c.loop-field.invariant.read))

pub returns : goal.returns
returns c =
    let past = rw c.loop-field.invariant.same_row at c.in-None.ensures.steps.1 in
    rw c.from_vec.ensures (inl (ap Ok (all_words (map string_bytes c.loop-field.words.items) (fields_of c.args.row.now) c.loop-field.field-iterator.at _ past c.loop-field.invariant.read)))
