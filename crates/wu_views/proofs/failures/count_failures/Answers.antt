use Rattle.std.proofs.Common.{rules, [], ◌≡◌}
use Rattle.wu_views.specs.Failures.{FindsFailures}
use Rattle.wu_views.specs.declared.failures.Failures.{Failures}
use Rattle.wu_views.proofs.FailureLemmas.{failures_are}
use Rattle.wu_views.proofs.TallyLemmas.{walk_failed, walk_made}
use Rattle.wu_views.proofs.failures.count_failures.Goals as goal

pub returns-in-Ok : goal.returns-in-Ok
returns-in-Ok g c = record {
  reads = let first : Failures = record { hosts = c.new.result } in
      let none : c.new.result.items ≡ [] = search rules in
      walk_made g.S.Store _ _ first c.walk.new.taker tt c.walk.new.taker.hosts FindsFailures c.in-Ok.ensures (λ world taken. failures_are world first c.walk.new.taker none taken);
}

pub returns-in-Err : goal.returns-in-Err
returns-in-Err g c = record { reads = rw c.fault_of_count.ensures (walk_failed g.S.Store _ _ (record { hosts = c.new.result }) c.walk.new.taker c.in-Err.fault FindsFailures c.in-Err.ensures (λ world. tt)) }
