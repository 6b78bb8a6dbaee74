use Rattle.std.proofs.Common.{◌≡◌, drop, map, string_bytes}
use Rattle.wu_feed.specs.Scripts.{words_among}
use Rattle.wu_feed.proofs.ScriptLemmas.{after_words}
use Rattle.wu_feed.proofs.script.words_of.Given as goal

abbrev pub invariant-loop-field : goal.invariant-loop-field
invariant-loop-field l = record {
  read : after_words (map string_bytes l.words.items) (words_among (drop l.field-index (map (λ field. field.now) l.fn.fields))) ≡ words_among (map (λ field. field.now) l.fn.fields);
}
