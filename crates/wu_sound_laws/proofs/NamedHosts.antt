-- The hosts of grants have names where each grant is to one.
use Rattle.std.proofs.Common.{ℕ, List, map}
use Rattle.std.proofs.lemmas.List.Elements.{All-from_recursion, All-map, recursion_from_All}
use Rattle.std.specs.List.{All}
use Rattle.wu_core.specs.declared.workunit.Grant.{Grant}
use Rattle.wu_core.specs.Hosts.{hosts_of}
use Rattle.wu_views.proofs.NamedHosts.{among}

module _ (P : List ℕ → Type 0) where
  -- what is true of the host of each grant is true of each host that is listed
  pub hosts_have : (grants : List Grant) → All (λ (g : Grant). P g.host) grants → All P (hosts_of grants)
  hosts_have grants all =
      let names = map (λ (g : Grant). g.host) grants in
      All-from_recursion P (hosts_of grants) (among P names (recursion_from_All P names (All-map P (λ (g : Grant). g.host) grants all)))
