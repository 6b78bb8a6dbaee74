use Rattle.std.proofs.Common.{get_or, Greater, ℕ, ◌≡◌, ◌<◌}
use Rattle.wu_views.specs.Failures.{by_failures}
use Rattle.wu_views.specs.declared.failures.HostFailures.{HostFailures}
use Rattle.wu_views.proofs.failures.place_among.Given as goal

abbrev pub invariant-loop-place : goal.invariant-loop-place
invariant-loop-place l = (k : ℕ) (d : HostFailures) → k < l.place → by_failures l.host (get_or l.hosts k d) ≡ Greater
