use Rattle.std.proofs.Common.{None}
use Rattle.wu_store.specs.Reads.{FindsAt}
use Rattle.wu_views.specs.Tallies.{deadlines_of}
use Rattle.wu_views.proofs.TallyLemmas.{deadlines_are, walk_failed, walk_made}
use Rattle.wu_views.proofs.tallies.count_deadlines.Goals as goal

pub returns-in-Ok : goal.returns-in-Ok
returns-in-Ok g c = record {
  reads = walk_made g.S.Store _ _ (record { now = c.args.now; overdue = 0; next = None }) c.walk.new.taker tt c.walk.new.taker (FindsAt (deadlines_of c.args.now)) c.in-Ok.ensures
      (λ world taken. deadlines_are c.args.now world c.walk.new.taker taken);
}

pub returns-in-Err : goal.returns-in-Err
returns-in-Err g c = record { reads = rw c.fault_of_count.ensures (walk_failed g.S.Store _ _ (record { now = c.args.now; overdue = 0; next = None }) c.walk.new.taker c.in-Err.fault (FindsAt (deadlines_of c.args.now)) c.in-Err.ensures (λ world. tt)) }
