use Rattle.std.proofs.Common.{◌≡◌}
use Rattle.wu_views.proofs.CountWalks.{HasSummed}
use Rattle.wu_views.proofs.counts.count_grants.Given as goal

-- those whose rows were read are counted, and their credit is summed
abbrev pub invariant-loop : goal.invariant-loop
invariant-loop g l = record {
  same_reference : l.rows.conn.ghost_name ≡ l.initial.rows.conn.ghost_name;
  summed : HasSummed g.S.Store l.fn.conn l.rows.conn.now l.counter l.grants l.credit;
}
