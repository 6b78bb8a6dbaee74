use Rattle.std.proofs.Common.{◌∷◌, [], Ok, ap, arith, inl, map, string_bytes}
use Rattle.std.proofs.lemmas.Bool.Decides.{nat_tests}
use Rattle.std.proofs.lemmas.List.{map-append}
use Rattle.wu_feed.specs.Scripts.{words_among}
use Rattle.wu_feed.proofs.PlainLemmas.{all_there, bad_there, empty_there, word_there}
use Rattle.wu_feed.proofs.ScriptLemmas.{no_words_before}
use Rattle.wu_feed.proofs.script.words_of.Goals.{then-not-is_empty+in_ok-from_str+in_ok-push, else-not-is_empty}
use Rattle.wu_feed.proofs.script.words_of.Goals as goal

pub loop-field-init : goal.loop-field-init
loop-field-init c = record { read = rw c.new-words.ensures.items (no_words_before (words_among (map (λ field. field.now) c.args.fields.now))) }

pub loop-field-preserved : goal.loop-field-preserved
loop-field-preserved c =
    let front = map string_bytes c.loop-field.words.items in
    let word = c.in-Ok.ensures.word in
    elim c.if-not-is_empty.branch [
      | then-not-is_empty+in_ok-from_str+in_ok-push w ↦
          rw (w.words-is, w.in_ok-push.ensures.items, map-append string_bytes c.loop-field.words.items (w.in_ok-from_str.field-0 ∷ []), w.in_ok-from_str.ensures.ok, word.0)
          (record { read = word_there front c.args.fields.now c.loop-field.field-index _ _ c.loop-field-test.true c.loop-field.invariant.read word.1 (rw (← word.0) (grind (arith, nat_tests))) })
      | else-not-is_empty w ↦
          rw w.words-is (record { read = empty_there front c.args.fields.now c.loop-field.field-index _ _ c.loop-field-test.true c.loop-field.invariant.read word.1 (rw (← word.0) (grind (arith, nat_tests))) })
    ]

pub returns-in-Err : goal.returns-in-Err
returns-in-Err c =
    inl (ap Ok (bad_there (map string_bytes c.loop-field.words.items) c.args.fields.now c.loop-field.field-index _ _ c.loop-field-test.true c.loop-field.invariant.read c.in-Err.cause c.in-Err.ensures.cause))

pub returns : goal.returns
returns c = rw c.from_vec.ensures (inl (ap Ok (all_there (map string_bytes c.loop-field.words.items) c.args.fields.now c.loop-field.field-index _ c.loop-field-test.false c.loop-field.invariant.read)))
