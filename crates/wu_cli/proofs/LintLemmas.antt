-- A reading of which nothing is kept but whether it succeeded.
use Rattle.std.proofs.Common.{◌≡◌, ◌∙◌, Result, inl, inr, ap}
use Rattle.wu_core.specs.Reads.{IsOrWantsMemory}
use Rattle.wu_core.specs.declared.fault.Fault.{Fault}
use Rattle.wu_cli.specs.Linting.{nothing_of}

pub forgotten : {T : Type 0} (read expected : Result T Fault) (kept : Result (Unit {0}) Fault) → IsOrWantsMemory read expected → kept ≡ nothing_of read → IsOrWantsMemory kept (nothing_of expected)
forgotten read expected kept (inl same) is = inl (is ∙ ap nothing_of same)
forgotten read expected kept (inr memory) is = inr (is ∙ ap nothing_of memory)
