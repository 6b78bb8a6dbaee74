use Rattle.std.proofs.Common.{rules, of_calls, ◌≡◌, ◌∙◌, sym}
use Rattle.std.proofs.lemmas.Fn.{always_returns_same}
use Rattle.wu_loader.proofs.ListedLemmas.{found_listed, listed_found, stands}
use Rattle.wu_loader.proofs.hosts.is_listed.Goals as goal

pub returns : goal.returns
returns c =
    let name = c.args.name.now in
    let found = c.binary_search_by.ensures.position (stands name) (always_returns_same _ (λ a r. r ≡ stands name a.0.now) _ (λ a r q k. search (rules, of_calls))) in (
      λ yes. found_listed name c.args.hosts.now c.binary_search_by.result c.binary_search_by.ensures.bound found (sym c.is_ok.ensures.value ∙ yes),
      λ listed. c.is_ok.ensures.value ∙ listed_found name c.args.hosts.now c.requires c.binary_search_by.result found listed,
    )
