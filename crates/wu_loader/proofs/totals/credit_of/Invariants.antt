use Rattle.std.proofs.Common.{take, ◌≡◌, sum_by}
use Rattle.wu_loader.proofs.totals.credit_of.Given as goal

abbrev pub invariant-loop-grant : goal.invariant-loop-grant
invariant-loop-grant l = l.credit ≡ sum_by (λ grant. grant.now.credit) (take l.grant-index l.grants)
