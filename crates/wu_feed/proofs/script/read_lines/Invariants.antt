use Rattle.std.proofs.Common.{◌≡◌, ◌++◌, map, drop}
use Rattle.std.specs.List.{enumerate_from, filter_map}
use Rattle.wu_feed.specs.Scripts.{script_line_of}
use Rattle.wu_feed.proofs.ScriptLemmas.{lines_from}
use Rattle.wu_feed.proofs.script.read_lines.Given as goal

abbrev pub invariant-loop-line : goal.invariant-loop-line
invariant-loop-line l = record {
  numbered : l.number ≡ l.line-index;
  read : l.items.items ++ lines_from l.number (map (λ line. line.now) (drop l.line-index l.lines)) ≡ filter_map script_line_of (enumerate_from 1 (map (λ line. line.now) l.lines));
}
