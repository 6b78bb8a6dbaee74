use Rattle.wu_schema.proofs.Words.{rules, ◌≡◌}
use Rattle.std.specs.Ordering.{is_lt}
use Rattle.std.proofs.lemmas.Fn.{always_returns_same}
use Rattle.std.proofs.lemmas.List.MinMax.{ranks_by}
use Rattle.wu_loader.specs.Dealing.{by_place}
use Rattle.wu_loader.proofs.DealLemmas.{by_place_total}
use Rattle.wu_loader.proofs.dealing.sort.Goals as goal

pub returns-clause-sorted : goal.returns-clause-sorted
returns-clause-sorted c =
    c.sort_unstable_by.ensures.sorted (λ x y. is_lt (by_place x y)) (ranks_by by_place_total (λ x. x)) (always_returns_same _ (λ a r. is_lt r ≡ is_lt (by_place a.0.now a.1.0.now)) _ (λ a r q k. search rules))
