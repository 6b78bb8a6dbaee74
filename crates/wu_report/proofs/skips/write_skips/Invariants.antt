use Rattle.std.proofs.Common.{take, flat_map}
use Rattle.std.specs.Io.KnownBytes.{Appends}
use Rattle.std.specs.List.{enumerate_from}
use Rattle.wu_report.specs.Texts.{skip_line, skip_word}
use Rattle.wu_report.proofs.skips.write_skips.Given as goal

abbrev pub invariant-loop-place : goal.invariant-loop-place
invariant-loop-place g l =
    Appends (g.W.Write.contents l.initial.out) (g.W.Write.contents l.out) (flat_map (skip_line (skip_word l.kind)) (take l.place (enumerate_from 2 l.verdicts)))
