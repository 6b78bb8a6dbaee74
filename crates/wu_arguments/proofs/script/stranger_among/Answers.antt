use Rattle.std.proofs.Common.{◌≡◌, ◌∙◌, ◌+◌, Some, None, ap, arith, drop, map, refl, string_bytes, sym}
use Rattle.std.proofs.lemmas.List.{at_drop_all}
use Rattle.wu_arguments.specs.Scripts.{or_else, stranger_among, stranger_word}
use Rattle.wu_arguments.proofs.ScriptLemmas.{among_from}
use Rattle.wu_arguments.proofs.script.stranger_among.Goals as goal

pub loop-word-init : goal.loop-word-init
loop-word-init c = refl

pub loop-word-preserved : goal.loop-word-preserved
loop-word-preserved c =
    let rest = stranger_among (map string_bytes (drop (c.loop-word.word-index + 1) c.args.words.now)) in
    let none : stranger_word (string_bytes c.word-item.result) ≡ None = ap stranger_word (sym c.as_str.ensures.value) ∙ sym c.stranger_word.ensures ∙ c.in_default.is in
    sym (among_from c.args.words.now c.loop-word.word-index c.word-item.result c.loop-word-test.true c.word-item.is ∙ ap (λ o. or_else o rest) none) ∙ c.loop-word.invariant

pub returns-in-Some : goal.returns-in-Some
returns-in-Some c =
    let rest = stranger_among (map string_bytes (drop (c.loop-word.word-index + 1) c.args.words.now)) in
    let some : stranger_word (string_bytes c.word-item.result) ≡ Some c.in-Some.outsider = ap stranger_word (sym c.as_str.ensures.value) ∙ sym c.stranger_word.ensures ∙ c.in-Some.is in
    sym (among_from c.args.words.now c.loop-word.word-index c.word-item.result c.loop-word-test.true c.word-item.is ∙ ap (λ o. or_else o rest) some) ∙ c.loop-word.invariant

pub returns : goal.returns
returns c =
    sym (at_drop_all (λ words. stranger_among (map string_bytes words)) c.args.words.now c.loop-word.word-index (omega (arith, c.loop-word-test.false))) ∙ c.loop-word.invariant
