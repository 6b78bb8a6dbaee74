use Rattle.wu_stops.proofs.StoppingLemmas.{found_again, found_clean}
use Rattle.wu_stops.proofs.stopping.stop_and_open.Goals as goal

pub returns-in-Ok-clause-reopened : goal.returns-in-Ok-clause-reopened
returns-in-Ok-clause-reopened g c clean =
    found_again c.args.conn c.in-Ok.again c.store_of.result c.close-log.result.log c.close-log.result.db c.crash.new.self c.crash-2.new.self
    c.store_of.ensures.numbered c.store_of.ensures.sound c.store_of.ensures.quiet c.close-log.ensures c.crash.ensures.left c.crash-2.ensures.left c.crash.ensures.clean c.crash-2.ensures.clean
    (c.in-Ok.ensures.found clean) g.met.D.Disk.seen_may_stay (c.in-Ok.ensures.opened clean)

pub returns-in-Ok-clause-clean : goal.returns-in-Ok-clause-clean
returns-in-Ok-clause-clean g c clean =
    found_clean c.args.conn c.in-Ok.again c.store_of.result c.close-log.result.log c.close-log.result.db c.crash.new.self c.crash-2.new.self
    c.store_of.ensures.numbered c.store_of.ensures.sound c.store_of.ensures.quiet c.close-log.ensures c.crash.ensures.left c.crash-2.ensures.left c.crash.ensures.clean c.crash-2.ensures.clean
    (c.in-Ok.ensures.found clean)
