use Rattle.std.proofs.Common.{◌≡◌, take}
use Rattle.wu_schema.specs.Stored.{verdict_digits}
use Rattle.wu_store.proofs.verdicts.Verdicts.from_slice.Given as goal

abbrev pub invariant-loop-verdict : goal.invariant-loop-verdict
invariant-loop-verdict l = l.digits.bytes.items ≡ verdict_digits (take l.verdict-index l.verdicts)
