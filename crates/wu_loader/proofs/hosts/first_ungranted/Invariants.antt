use Rattle.wu_schema.proofs.Words.{ℕ, ◌<◌}
use Rattle.std.specs.Prelude.{slice_index_or}
use Rattle.wu_loader.specs.Granting.{referred, HasGrantedSums}
use Rattle.wu_schema.specs.declared.rows.HostSum.{HostSum}
use Rattle.wu_loader.proofs.hosts.first_ungranted.Given as goal

abbrev pub invariant-loop-place : goal.invariant-loop-place
invariant-loop-place l = (k : ℕ) (d : HostSum) → k < l.place → HasGrantedSums (referred l.grants) (slice_index_or l.hosts k d)
