use Rattle.std.proofs.Common.{◌≡◌, map, drop, string_bytes}
use Rattle.csv.specs.Records.{fields_of}
use Rattle.wu_feed.specs.Scripts.{words_among}
use Rattle.wu_feed.proofs.ScriptLemmas.{after_words}
use Rattle.wu_feed.proofs.script.words_among.Given as goal

abbrev pub invariant-loop-field : goal.invariant-loop-field
invariant-loop-field l = record {
  same_row : l.field-iterator.row.now ≡ l.fn.row;
  read : after_words (map string_bytes l.words.items) (words_among (drop l.field-iterator.at (fields_of l.fn.row))) ≡ words_among (fields_of l.fn.row);
}
