use Rattle.std.proofs.Common.{refl, ◌≡◌}
use Rattle.wu_rules.specs.Validation.{late_verdict}
use Rattle.wu_rules.proofs.validator.judge_late.Goals as goal
use Rattle.wu_rules.proofs.validator.judge_late.Goals.{then-is_gone, else-is_gone}

pub returns-after-is_gone : goal.returns-after-is_gone
returns-after-is_gone c =
    let late : c.if-is_gone.instance ≡ late_verdict c.args.is_gone c.args.is_equal = elim c.if-is_gone.branch [
      | then-is_gone w ↦ rw (w.instance-is, w.if-is_gone.true) refl
      | else-is_gone w ↦ rw (w.instance-is, w.verdict-instance.ensures, w.if-is_gone.false) refl
    ] in
    rw (← c.if-is_new.ensures, late) refl
