use Rattle.std.proofs.Common.{arith}
use Rattle.std.proofs.Math.Logic.{∥∥₁_map}
use Rattle.sqlite.specs.State.{HasCleanDisk}
use Rattle.sqlite.specs.Files.{file_state}
use Rattle.wu_stops.proofs.StoppingLemmas.{empty_project, some_then}
use Rattle.wu_stops.proofs.BeginningLemmas.{empty_vacant, goes_from_trees}
use Rattle.wu_stops.proofs.LeftoverLemmas.{empty_again, world_again}
use Rattle.wu_stops.proofs.leftovers.stop_and_open_left.Goals as goal

pub returns-in-Ok : goal.returns-in-Ok
returns-in-Ok g c = some_then c.begin.result (λ project begun.
    let adopts = begun.adopts in record {
      begins = begun.going;
      unlimited = adopts.unlimited;
      opens = adopts.is_open;
      knows = begun.knows;
      blank = λ files told numbered stay clean.
          let early : HasCleanDisk (file_state c.in-Ok.conn) = omega (arith, clean, adopts.clean) in
          let found = c.in-Ok.ensures.found early in
          let opened = c.in-Ok.ensures.opened early in (
            ∥∥₁_map (empty_again c.args.left c.into_files-log.result.log c.into_files-log.result.db c.crash.new.self c.crash-2.new.self c.into_files-log.ensures
                c.crash.ensures.left c.crash-2.ensures.left c.crash.ensures.clean c.crash-2.ensures.clean c.in-Ok.conn found files told numbered g.met.D.Disk.seen_may_stay stay)
                (λ empty. (adopts.fresh clean (empty_vacant c.in-Ok.conn opened empty)).goes),
            empty_project,
          );
      found = λ files told numbered world first stay clean.
          let early : HasCleanDisk (file_state c.in-Ok.conn) = omega (arith, clean, adopts.clean) in
          let found = c.in-Ok.ensures.found early in
          let opened = c.in-Ok.ensures.opened early in
          ∥∥₁_map (world_again c.args.left c.into_files-log.result.log c.into_files-log.result.db c.crash.new.self c.crash-2.new.self c.into_files-log.ensures
          c.crash.ensures.left c.crash-2.ensures.left c.crash.ensures.clean c.crash-2.ensures.clean c.in-Ok.conn found files told numbered g.met.D.Disk.seen_may_stay world stay)
          (λ it. adopts.goes clean world first (goes_from_trees c.in-Ok.conn opened g.met.D.Disk.seen_may_stay world it));
    }) c.begin.ensures
