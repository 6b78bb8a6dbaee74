use Rattle.std.proofs.Common.{◌≡◌}
use Rattle.wu_views.proofs.CountWalks.{HasCounted}
use Rattle.wu_views.proofs.counts.count_results.Given as goal

-- those whose rows were read are counted
abbrev pub invariant-loop : goal.invariant-loop
invariant-loop g l = record {
  same_reference : l.rows.conn.ghost_name ≡ l.initial.rows.conn.ghost_name;
  counted : HasCounted g.S.Store l.fn.conn l.rows.conn.now l.counter l.found;
}
