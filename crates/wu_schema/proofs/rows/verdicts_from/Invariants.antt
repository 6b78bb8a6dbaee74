use Rattle.wu_schema.proofs.Words.{take, verdict_digits, ◌≡◌}
use Rattle.wu_core.specs.Storable.{AreVerdicts}
use Rattle.wu_schema.proofs.rows.verdicts_from.Given as goal

abbrev pub invariant-loop-digit : goal.invariant-loop-digit
invariant-loop-digit l = (verdict_digits l.verdicts.items ≡ take l.digit-index l.digits) × AreVerdicts l.kind l.verdicts.items
