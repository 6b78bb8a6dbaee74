use Rattle.std.proofs.Common.{refl}
use Rattle.wu_rules.specs.Verdicts.{send_verdict_code}
use Rattle.wu_report.proofs.SkipLemmas.{none_has}
use Rattle.wu_report.proofs.skips.send_skip_word.Goals as goal

pub returns-in_err-from_code : goal.returns-in_err-from_code
returns-in_err-from_code c =
    rw (none_has send_verdict_code c.args.verdict c.in_err-from_code.ensures _, c.from_residual.ensures) refl
