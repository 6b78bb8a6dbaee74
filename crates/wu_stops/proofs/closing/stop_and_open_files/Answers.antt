use Rattle.sqlite.specs.Files.{file_state}
use Rattle.wu_stops.proofs.BeginningLemmas.{found_standing}
use Rattle.wu_stops.proofs.ClosingLemmas.{found_copied, outcome_of}
use Rattle.wu_stops.proofs.StoppingLemmas.{committed_at}
use Rattle.wu_stops.specs.Closing.{FindsOutcome}
use Rattle.wu_stops.proofs.closing.stop_and_open_files.Goals as goal

pub returns-in-Ok-clause-outcome : goal.returns-in-Ok-clause-outcome
returns-in-Ok-clause-outcome g c clean =
    outcome_of c.args.files c.in-Ok.again c.crash.new.self c.crash-2.new.self c.crash.ensures.left c.crash-2.ensures.left c.crash.ensures.clean c.crash-2.ensures.clean (c.in-Ok.ensures.found clean)
    (committed_at c.in-Ok.again g.met.D.Disk.seen_may_stay (c.in-Ok.ensures.opened clean))

pub returns-in-Ok-clause-reopened : goal.returns-in-Ok-clause-reopened
returns-in-Ok-clause-reopened g c old closed clean =
    let outcome : FindsOutcome g.D.Disk c.args.files c.in-Ok.again = returns-in-Ok-clause-outcome g c clean in
    found_copied c.args.files old c.in-Ok.again g.met.D.Disk.seen_may_stay outcome (closed outcome.honest)

pub returns-in-Ok-clause-clean : goal.returns-in-Ok-clause-clean
returns-in-Ok-clause-clean g c old closed clean = (closed (returns-in-Ok-clause-outcome g c clean).honest).was_clean

pub returns-in-Ok-clause-goes : goal.returns-in-Ok-clause-goes
returns-in-Ok-clause-goes g c old closed clean world goes =
    found_standing (file_state old) (file_state c.in-Ok.again) world goes (returns-in-Ok-clause-reopened g c old closed clean)
