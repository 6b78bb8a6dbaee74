use Rattle.std.proofs.Common.{◌<◌, length, bytes_eq, get_or, ap, ◌∙◌, arith}
use Rattle.wu_rules.specs.Validation.{output_at, judged_late, judged_late_by}
use Rattle.wu_rules.proofs.InPlace.{mapped_more}
use Rattle.wu_rules.proofs.Outputs.{output-judged_late, equal-so_far}
use Rattle.wu_rules.proofs.validator.judge_all_late.Goals as goal

pub each-preserved : goal.each-preserved
each-preserved c =
    let old = c.as_mut_slice-slice.result.now in
    let output = output_at old c.args.n in
    let inside : c.each.k < length c.each.slice = omega arith in
    let equal = c.agrees_at-is_equal.ensures ∙ equal-so_far (judged_late_by c.args.is_gone output) (λ i. output-judged_late c.args.is_gone (bytes_eq i.output output) i) old c.each.slice c.each.k c.args.n c.index-slice-k.result inside c.each.invariant in
    let made = c.judge_late.ensures ∙ ap (λ b. judged_late c.args.is_gone b (get_or c.each.slice c.each.k c.index-slice-k.result)) equal in
    mapped_more (judged_late_by c.args.is_gone output) old c.each.slice c.each.k c.index-slice-k.result c.judge_late.new.instance (omega arith) c.each.invariant made
