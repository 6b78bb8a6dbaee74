use Rattle.std.proofs.Common.{rules, of_calls, ◌≡◌}
use Rattle.std.specs.Cmp.Lexicographic.{slice_cmp}
use Rattle.std.specs.Ordering.{nat_cmp}
use Rattle.std.proofs.lemmas.Fn.{always_returns_same}
use Rattle.wu_views.specs.declared.failures.HostFailures.{HostFailures}
use Rattle.wu_views.proofs.failures.search.Goals as goal

pub returns-clause-found : goal.returns-clause-found
returns-clause-found c =
    c.binary_search_by.ensures.position (λ (h : HostFailures). slice_cmp nat_cmp h.host c.args.name.now) (always_returns_same _ (λ a r. r ≡ slice_cmp nat_cmp a.0.now.host c.args.name.now) _ (λ a r q k. search (rules, of_calls)))
