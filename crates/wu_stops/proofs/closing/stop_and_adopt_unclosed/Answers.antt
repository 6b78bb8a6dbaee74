use Rattle.std.proofs.Common.{arith}
use Rattle.sqlite.specs.Files.{file_state}
use Rattle.wu_stops.proofs.ClosingLemmas.{begins_after, goes_after}
use Rattle.wu_stops.proofs.StoppingLemmas.{some_then}
use Rattle.wu_stops.proofs.closing.stop_and_adopt_unclosed.Goals as goal

pub returns : goal.returns
returns g c = some_then c.begin.result (λ project begun.
    let adopts = begun.adopts in record {
      begins = begun.going;
      clean = λ old closed clean. c.in_ok-again.ensures.clean old closed (omega (arith, clean, adopts.clean));
      knows = begun.knows;
      free = λ old it. begins_after old (file_state c.in_ok-again.again) project adopts (c.in_ok-again.ensures.reopened old it);
      found = λ old it. goes_after old (file_state c.in_ok-again.again) project adopts (c.in_ok-again.ensures.reopened old it);
    }) c.begin.ensures
