-- What grants add up to for each host.
use Rattle.std.specs.Prelude.{◌≡◌, ◌<◌, ℕ, Bool, List, filter, sum_by, bytes_eq}
use Rattle.wu_core.specs.declared.workunit.Grant.{Grant}
use Rattle.std.specs.List.{AllByRecursion}
use Rattle.wu_core.specs.Hosts.{credit_of, grants_of}
use Rattle.wu_schema.specs.declared.rows.HostSum.{HostSum}

-- Whether the sum is for this host.
abbrev pub is_for : List ℕ → HostSum → Bool
is_for host sum = bytes_eq sum.name host

-- The credit that these sums add to a host.
abbrev pub total_of : List HostSum → List ℕ → ℕ
total_of sums host = sum_by (λ (sum : HostSum). sum.total) (filter (is_for host) sums)

-- The number of grants that these sums add to a host.
abbrev pub count_of : List HostSum → List ℕ → ℕ
count_of sums host = sum_by (λ (sum : HostSum). sum.grants) (filter (is_for host) sums)

-- The sums add to each host what the grants do, in one sum or more, each of at least one grant.
pub record AreSums (sums : List HostSum) (grants : List Grant) : Type 0 where
  pub total : (host : List ℕ) → total_of sums host ≡ credit_of grants host
  pub count : (host : List ℕ) → count_of sums host ≡ grants_of grants host
  pub some : AllByRecursion (λ (sum : HostSum). 0 < sum.grants) sums
