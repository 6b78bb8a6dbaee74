use Rattle.std.proofs.Common.{arith, inl, inr}
use Rattle.std.proofs.Math.Logic.{∥∥₁_map}
use Rattle.sqlite.specs.Files.{file_state}
use Rattle.sqlite.specs.State.{HasCleanDisk}
use Rattle.wu_core.specs.World.{empty_world}
use Rattle.wu_stops.proofs.StoppingLemmas.{empty_project, some_then}
use Rattle.wu_stops.proofs.BeginningLemmas.{found_standing, vacant_or_fresh}
use Rattle.wu_stops.proofs.beginning.adopt_stop_and_adopt.Goals as goal

pub returns-in-Some : goal.returns-in-Some
returns-in-Some g c = some_then c.begin.result (λ project begun.
    let adopts = begun.adopts in record {
      begins = begun.going;
      clean = λ clean.
          let early : HasCleanDisk (file_state c.in-Some.again) = omega (arith, clean, adopts.clean) in
          let before = c.in-Some.ensures.clean early in
          omega (arith, before, c.adopt_and_release.ensures.clean);
      knows = begun.knows;
      free = λ free clean.
          let early : HasCleanDisk (file_state c.in-Some.again) = omega (arith, clean, adopts.clean) in
          let mid = c.adopt_and_release.result in
          let left = c.adopt_and_release.ensures.left (c.in-Some.ensures.clean early) in (
            ∥∥₁_map (vacant_or_fresh (file_state c.args.conn) (file_state mid) (file_state c.in-Some.again) free left (c.in-Some.ensures.reopened early)) (λ it. elim it [
              | inl vacant ↦ (adopts.fresh clean vacant).goes
              | inr goes ↦ (adopts.goes clean empty_world (omega arith) goes).0
            ]),
            empty_project,
          );
      found = λ world first goes clean.
          let early : HasCleanDisk (file_state c.in-Some.again) = omega (arith, clean, adopts.clean) in
          let mid = c.adopt_and_release.result in
          let still = c.adopt_and_release.ensures.goes (c.in-Some.ensures.clean early) world first goes in
          ∥∥₁_map (found_standing (file_state mid) (file_state c.in-Some.again) world still (c.in-Some.ensures.reopened early)) (λ again. adopts.goes clean world first again);
    }) c.begin.ensures
