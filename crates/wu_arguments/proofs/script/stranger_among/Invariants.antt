use Rattle.std.proofs.Common.{◌≡◌, drop, map, string_bytes}
use Rattle.wu_arguments.specs.Scripts.{stranger_among}
use Rattle.wu_arguments.proofs.script.stranger_among.Given as goal

abbrev pub invariant-loop-word : goal.invariant-loop-word
invariant-loop-word l = stranger_among (map string_bytes (drop l.word-index l.words)) ≡ stranger_among (map string_bytes l.words)
