use Rattle.std.proofs.Common.{take, flat_map}
use Rattle.std.specs.Io.KnownBytes.{Appends}
use Rattle.wu_report.specs.Texts.{import_detail}
use Rattle.wu_report.proofs.skips.write_details.Given as goal

abbrev pub invariant-loop-line : goal.invariant-loop-line
invariant-loop-line g l = Appends (g.W.Write.contents l.initial.out) (g.W.Write.contents l.out) (flat_map import_detail (take l.line-index l.lines))
