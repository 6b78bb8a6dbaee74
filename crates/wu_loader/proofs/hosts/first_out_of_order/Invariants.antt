use Rattle.wu_schema.proofs.Words.{Less, ℕ, ◌+◌, ◌<◌, ◌≡◌}
use Rattle.std.specs.Prelude.{slice_index_or}
use Rattle.wu_loader.specs.Granting.{by_name}
use Rattle.wu_schema.specs.declared.rows.HostSum.{HostSum}
use Rattle.wu_loader.proofs.hosts.first_out_of_order.Given as goal

abbrev pub invariant-loop-place : goal.invariant-loop-place
invariant-loop-place l = (k : ℕ) (d : HostSum) → k + 1 < l.place → by_name (slice_index_or l.hosts k d) (slice_index_or l.hosts (k + 1) d) ≡ Less
