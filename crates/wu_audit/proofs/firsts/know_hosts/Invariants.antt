use Rattle.std.proofs.Common.{ℕ, ◌<◌, get_or}
use Rattle.wu_core.specs.declared.workunit.Grant.{Grant}
use Rattle.wu_core.specs.Storable.{IsName}
use Rattle.wu_audit.proofs.firsts.know_hosts.Given as goal

abbrev pub invariant-loop-grant : goal.invariant-loop-grant
invariant-loop-grant l = (k : ℕ) (d : Grant) → k < l.grant-index → IsName (get_or l.grants k d).host
