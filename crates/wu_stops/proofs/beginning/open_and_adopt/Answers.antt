use Rattle.std.proofs.Common.{arith}
use Rattle.std.proofs.Math.Logic.{∥∥₁_map}
use Rattle.sqlite.specs.State.{HasCleanDisk}
use Rattle.sqlite.specs.Files.{file_state}
use Rattle.wu_stops.proofs.StoppingLemmas.{empty_project, some_then}
use Rattle.wu_stops.proofs.BeginningLemmas.{blank_vacant, finds_in, goes_from}
use Rattle.wu_stops.proofs.beginning.open_and_adopt.Goals as goal

pub returns-in-Ok : goal.returns-in-Ok
returns-in-Ok g c = some_then c.begin.result (λ project begun.
    let adopts = begun.adopts in record {
      begins = begun.going;
      unlimited = adopts.unlimited;
      opens = adopts.is_open;
      knows = begun.knows;
      blank = λ blank clean.
          let early : HasCleanDisk (file_state c.in-Ok.conn) = omega (arith, clean, adopts.clean) in (
            (adopts.fresh clean (blank_vacant c.in-Ok.conn (c.in-Ok.ensures.opened early) _ (finds_in c.args.files c.in-Ok.conn (c.in-Ok.ensures.found early)) blank)).goes,
            empty_project,
          );
      found = λ world first held clean.
          let early : HasCleanDisk (file_state c.in-Ok.conn) = omega (arith, clean, adopts.clean) in
          ∥∥₁_map held (λ it. adopts.goes clean world first (goes_from c.in-Ok.conn (c.in-Ok.ensures.opened early) _ (finds_in c.args.files c.in-Ok.conn (c.in-Ok.ensures.found early)) g.met.D.Disk.seen_may_stay world it));
    }) c.begin.ensures
