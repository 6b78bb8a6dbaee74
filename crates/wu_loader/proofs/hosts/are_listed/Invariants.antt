use Rattle.wu_schema.proofs.Words.{ℕ, ◌<◌}
use Rattle.std.specs.Borrow.{Bor}
use Rattle.std.specs.Prelude.{slice_index_or}
use Rattle.wu_core.specs.declared.workunit.Grant.{Grant}
use Rattle.wu_loader.specs.Granting.{IsListed}
use Rattle.wu_loader.proofs.hosts.are_listed.Given as goal

abbrev pub invariant-loop-grant : goal.invariant-loop-grant
invariant-loop-grant l = (k : ℕ) (d : Bor Grant) → k < l.grant-index → IsListed l.hosts (slice_index_or l.grants k d).now.host
