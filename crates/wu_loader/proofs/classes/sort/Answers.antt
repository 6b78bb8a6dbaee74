use Rattle.wu_schema.proofs.Words.{rules, ◌≡◌}
use Rattle.std.specs.Ordering.{is_lt}
use Rattle.std.proofs.lemmas.Fn.{always_returns_same}
use Rattle.std.proofs.lemmas.List.MinMax.{ranks_by}
use Rattle.wu_loader.specs.Classing.{by_classed_host}
use Rattle.wu_schema.proofs.CallLemmas.{ok_on}
use Rattle.wu_loader.proofs.ClassLemmas.{by_host_total}
use Rattle.wu_loader.proofs.classes.sort.Goals as goal

pub returns-clause-sorted : goal.returns-clause-sorted
returns-clause-sorted c =
    ok_on c.sort_by.result _ _ (λ sorted. sorted (λ x y. is_lt (by_classed_host x y)) (ranks_by by_host_total (λ x. x)) (always_returns_same _ (λ a r. is_lt r ≡ is_lt (by_classed_host a.0.now a.1.0.now)) _ (λ a r q k. search rules))) c.sort_by.ensures.sorted
