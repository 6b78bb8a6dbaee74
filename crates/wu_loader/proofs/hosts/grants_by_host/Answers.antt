use Rattle.std.proofs.Common.{rules, is_lt, subst, IsPermutation, ◌≡◌}
use Rattle.std.proofs.lemmas.Cmp.{nat_list_cmp_total}
use Rattle.std.proofs.lemmas.Fn.{always_returns_same}
use Rattle.std.proofs.lemmas.List.MinMax.{ranks_by}
use Rattle.std.proofs.lemmas.List.Sorted.{IsPermutation-map}
use Rattle.wu_core.specs.declared.workunit.Grant.{Grant}
use Rattle.std.specs.Borrow.{Bor}
use Rattle.wu_loader.specs.Granting.{by_host, referred}
use Rattle.wu_loader.proofs.hosts.grants_by_host.Goals as goal

pub returns-clause-same : goal.returns-clause-same
returns-clause-same c =
    subst (λ gs. IsPermutation gs (referred c.sort_by.new.self.items)) c.in_ok-sorted.ensures (IsPermutation-map (λ (g : Bor Grant). g.now) c.in_ok-sorted.sorted.items c.sort_by.new.self.items c.sort_by.ensures.permutation)

pub returns-clause-sorted : goal.returns-clause-sorted
returns-clause-sorted c =
    c.in_ok-sort_by.ensures.sorted (λ x y. is_lt (by_host x y)) (ranks_by nat_list_cmp_total (λ (g : Bor Grant). g.now.host)) (always_returns_same _ (λ a r. is_lt r ≡ is_lt (by_host a.0.now a.1.0.now)) _ (λ a r q k. search rules))
