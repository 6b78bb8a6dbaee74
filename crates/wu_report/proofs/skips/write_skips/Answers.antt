use Rattle.std.proofs.Common.{ℕ, ◌+◌, ◌<◌, length, get_or, refl, arith}
use Rattle.std.specs.List.{enumerate_from}
use Rattle.std.proofs.lemmas.List.{take_all}
use Rattle.std.proofs.lemmas.List.FromFn.{length-enumerate_from}
use Rattle.wu_report.proofs.SkipLemmas.{row_at}
use Rattle.wu_report.proofs.WritingLemmas.{prints_all, prints_next, prints_until}
use Rattle.wu_report.specs.Texts.{skip_line, skip_word}
use Rattle.wu_report.proofs.skips.write_skips.Goals as goal

pub returns-in_err-write_skip : goal.returns-in_err-write_skip
returns-in_err-write_skip g c =
    let verdicts = c.args.verdicts.now in
    let i = c.loop-place.place in
    let rows = enumerate_from 2 verdicts in
    let row : ℕ × ℕ = (i + 2, get_or verdicts i 0) in
    let within : i < length rows = omega (arith, length-enumerate_from 2 verdicts) in
    prints_until g.W.Write.contents (skip_line (skip_word c.args.kind)) rows i row within (row_at verdicts i row c.loop-place-test.true refl refl) _ _ _ c.loop-place.invariant
    c.in_err-write_skip.field-0.0 c.from_residual.result c.from_residual.ensures.1 c.in_err-write_skip.ensures

pub loop-place-preserved : goal.loop-place-preserved
loop-place-preserved g c =
    let verdicts = c.args.verdicts.now in
    let i = c.loop-place.place in
    let rows = enumerate_from 2 verdicts in
    let row : ℕ × ℕ = (i + 2, get_or verdicts i 0) in
    let within : i < length rows = omega (arith, length-enumerate_from 2 verdicts) in
    prints_next g.W.Write.contents (skip_line (skip_word c.args.kind)) rows i row within (row_at verdicts i row c.loop-place-test.true refl refl) _ _ _ c.loop-place.invariant
    c.in_ok-write_skip.ensures.bytes

pub returns : goal.returns
returns g c =
    let rows = enumerate_from 2 c.args.verdicts.now in
    let all = take_all c.loop-place.place rows (omega (arith, length-enumerate_from 2 c.args.verdicts.now)) in
    prints_all g.W.Write.contents _ _ _ _ (rw all at c.loop-place.invariant)
