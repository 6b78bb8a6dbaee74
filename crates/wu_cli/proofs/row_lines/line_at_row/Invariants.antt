use Rattle.std.proofs.Common.{◌≡◌, ◌+◌, ◌-◌, drop, map}
use Rattle.wu_cli.specs.RowLines.{line_at_row, number_of_line}
use Rattle.wu_cli.proofs.RowLineLemmas.{numbered_rows}
use Rattle.wu_cli.proofs.row_lines.line_at_row.Given as goal

abbrev pub invariant-loop-index : goal.invariant-loop-index
invariant-loop-index l =
    number_of_line (numbered_rows (l.index + 1) (map (λ line. line.now) (drop l.index l.lines))) (l.left - 1) ≡ line_at_row (map (λ line. line.now) l.lines) l.row
