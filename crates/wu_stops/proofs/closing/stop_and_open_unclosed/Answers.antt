use Rattle.std.proofs.lemmas.Option.{IfSome_then}
use Rattle.sqlite.specs.Files.{file_state}
use Rattle.wu_stops.proofs.BeginningLemmas.{found_standing}
use Rattle.wu_stops.proofs.ClosingLemmas.{found_unclosed, unclosed_clean}
use Rattle.wu_stops.proofs.closing.stop_and_open_unclosed.Goals as goal

pub returns-clause-clean : goal.returns-clause-clean
returns-clause-clean g c = IfSome_then c.stop_and_open_files.result c.stop_and_open_files.ensures.outcome (λ again outcome old closed clean.
    unclosed_clean c.close.result old again g.met.D.Disk.seen_may_stay (outcome clean) c.args.left c.close.ensures closed)

pub returns-clause-reopened : goal.returns-clause-reopened
returns-clause-reopened g c = IfSome_then c.stop_and_open_files.result c.stop_and_open_files.ensures.outcome (λ again outcome old it clean.
    found_unclosed c.close.result old again g.met.D.Disk.seen_may_stay (outcome clean) c.args.left c.close.ensures it)

pub returns-clause-goes : goal.returns-clause-goes
returns-clause-goes g c = IfSome_then c.stop_and_open_files.result c.stop_and_open_files.ensures.outcome (λ again outcome old it clean world goes.
    found_standing (file_state old) (file_state again) world goes (found_unclosed c.close.result old again g.met.D.Disk.seen_may_stay (outcome clean) c.args.left c.close.ensures it))
