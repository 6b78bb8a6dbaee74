use Rattle.std.proofs.Common.{rules}
use Rattle.sqlite.specs.Files.{file_state}
use Rattle.wu_stops.proofs.ClosingLemmas.{after_more, begins_after, goes_after}
use Rattle.wu_stops.proofs.closing.close_stop_and_adopt.Goals as goal

pub returns : goal.returns
returns g c =
    let begun = c.in_ok-project.ensures in
    let again = file_state c.in_ok-closed.again in
    record {
      begins = begun.going;
      clean = search (rules, begun.adopts);
      knows = begun.knows;
      free = after_more c.args.conn c.in_ok-closed.closed (begins_after c.args.conn again c.in_ok-project.project begun.adopts) c.in_ok-closed.ensures.reopened;
      found = after_more c.args.conn c.in_ok-closed.closed (goes_after c.args.conn again c.in_ok-project.project begun.adopts) c.in_ok-closed.ensures.reopened;
    }
