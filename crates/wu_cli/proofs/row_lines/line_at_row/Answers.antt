use Rattle.std.proofs.Common.{◌≡◌, ◌∙◌, ◌+◌, ◌-◌, suc, true, false, [], drop, map, ap, sym, arith, slice_index_or}
use Rattle.std.proofs.lemmas.List.{drop_more}
use Rattle.wu_cli.specs.RowLines.{holds_row, number_of_line}
use Rattle.wu_cli.proofs.RowLineLemmas.{is_first, is_later, passed_over, numbered_rows}
use Rattle.wu_cli.proofs.row_lines.line_at_row.Goals as goal

pub loop-index-preserved-then-not-holds_row : goal.loop-index-preserved-then-not-holds_row
loop-index-preserved-then-not-holds_row c =
    let i = c.loop-index.index in
    let lines = c.args.lines.now in
    let order = drop_more lines i record { ref_ptr = (0, 0); now = [] } c.loop-index-test.true in
    let line = (slice_index_or lines i record { ref_ptr = (0, 0); now = [] }).now in
    sym (ap (λ its. number_of_line (numbered_rows (i + 1) (map (λ line. line.now) its)) (c.loop-index.left - 1)) order
    ∙ passed_over (i + 1) line (map (λ line. line.now) (drop (i + 1) lines)) (c.loop-index.left - 1) (sym c.holds_row.ensures ∙ c.if-not-holds_row.true)) ∙ c.loop-index.invariant

pub returns-then-left-le1 : goal.returns-then-left-le1
returns-then-left-le1 c =
    let i = c.loop-index.index in
    let lines = c.args.lines.now in
    let order = drop_more lines i record { ref_ptr = (0, 0); now = [] } c.loop-index-test.true in
    let line = (slice_index_or lines i record { ref_ptr = (0, 0); now = [] }).now in
    let left = c.if-left-le1.true in
    let first : c.loop-index.left - 1 ≡ 0 = omega (arith, left) in
    sym (ap (λ its. number_of_line (numbered_rows (i + 1) (map (λ line. line.now) its)) 0) order
    ∙ is_first (i + 1) line (map (λ line. line.now) (drop (i + 1) lines)) (sym c.holds_row.ensures ∙ c.if-not-holds_row.false))
    ∙ sym (ap (λ place. number_of_line (numbered_rows (i + 1) (map (λ line. line.now) (drop i lines))) place) first) ∙ c.loop-index.invariant

pub loop-index-preserved : goal.loop-index-preserved
loop-index-preserved c =
    let i = c.loop-index.index in
    let lines = c.args.lines.now in
    let order = drop_more lines i record { ref_ptr = (0, 0); now = [] } c.loop-index-test.true in
    let line = (slice_index_or lines i record { ref_ptr = (0, 0); now = [] }).now in
    let left = c.if-left-le1.false in
    let later : c.loop-index.left - 1 ≡ suc (c.loop-index.left - 1 - 1) = omega (arith, left) in
    sym (ap (λ its. number_of_line (numbered_rows (i + 1) (map (λ line. line.now) its)) (suc (c.loop-index.left - 1 - 1))) order
    ∙ is_later (i + 1) line (map (λ line. line.now) (drop (i + 1) lines)) (c.loop-index.left - 1 - 1) (sym c.holds_row.ensures ∙ c.if-not-holds_row.false))
    ∙ sym (ap (λ place. number_of_line (numbered_rows (i + 1) (map (λ line. line.now) (drop i lines))) place) later) ∙ c.loop-index.invariant
