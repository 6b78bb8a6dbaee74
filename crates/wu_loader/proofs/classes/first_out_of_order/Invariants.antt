use Rattle.wu_schema.proofs.Words.{Less, ℕ, ◌+◌, ◌<◌, ◌≡◌}
use Rattle.std.specs.Prelude.{slice_index_or}
use Rattle.wu_loader.specs.Classing.{by_classed_host}
use Rattle.wu_core.specs.declared.workunit.HostClass.{HostClass}
use Rattle.wu_loader.proofs.classes.first_out_of_order.Given as goal

abbrev pub invariant-loop-place : goal.invariant-loop-place
invariant-loop-place l = (k : ℕ) (d : HostClass) → k + 1 < l.place → by_classed_host (slice_index_or l.classes k d) (slice_index_or l.classes (k + 1) d) ≡ Less
