use Rattle.std.proofs.Common.{◌≡◌, drop}
use Rattle.wu_feed.proofs.MomentLemmas.{fit_all}
use Rattle.wu_feed.specs.Moments.{shape_of_moment}
use Rattle.wu_feed.proofs.moment.has_shape.Given as goal

abbrev pub invariant-loop-place : goal.invariant-loop-place
invariant-loop-place l = fit_all (drop l.place shape_of_moment) (drop l.place l.text) ≡ fit_all shape_of_moment l.text
