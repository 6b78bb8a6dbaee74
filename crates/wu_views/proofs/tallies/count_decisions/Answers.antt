use Rattle.wu_store.specs.Reads.{FindsAt}
use Rattle.wu_views.specs.Tallies.{decisions_of}
use Rattle.wu_views.proofs.TallyLemmas.{decisions_are, walk_failed, walk_made}
use Rattle.wu_views.proofs.tallies.count_decisions.Goals as goal

pub returns-in-Ok : goal.returns-in-Ok
returns-in-Ok g c = record {
  reads = walk_made g.S.Store _ _ (record { undecided = 0; given_up = 0 }) c.walk.new.taker tt c.walk.new.taker (FindsAt decisions_of) c.in-Ok.ensures
      (λ world taken. decisions_are world c.walk.new.taker taken);
}

pub returns-in-Err : goal.returns-in-Err
returns-in-Err g c = record { reads = rw c.fault_of_count.ensures (walk_failed g.S.Store _ _ (record { undecided = 0; given_up = 0 }) c.walk.new.taker c.in-Err.fault (FindsAt decisions_of) c.in-Err.ensures (λ world. tt)) }
