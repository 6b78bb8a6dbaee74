use Rattle.std.proofs.Common.{◌≡◌, ◌+◌, ◌++◌, length}
use Rattle.wu_store.specs.Changing.{archived_from}
use Rattle.wu_plans.proofs.passes.with_archived.Given as goal

abbrev pub invariant-loop-row : goal.invariant-loop-row
invariant-loop-row l =
    (l.seq ≡ l.fn.place + length l.yielded) × (l.changes.items ≡ l.initial.changes.items ++ archived_from l.fn.place l.yielded)
