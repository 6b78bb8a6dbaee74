-- What hosts have been granted.
use Rattle.std.specs.Prelude.{ℕ, Bool, List, [], ◌∷◌, map, filter, sum_by, count_by, bytes_eq}
use Rattle.std.specs.Cmp.Lexicographic.{slice_cmp}
use Rattle.std.specs.Ordering.{nat_cmp, match_ordering}
use Rattle.wu_core.specs.declared.workunit.Grant.{Grant}

-- Whether the grant is for this host.
abbrev pub is_to : List ℕ → Grant → Bool
is_to host grant = bytes_eq grant.host host

-- The credit of a host, from all its grants.
abbrev pub credit_of : List Grant → List ℕ → ℕ
credit_of grants host = sum_by (λ grant. grant.credit) (filter (is_to host) grants)

-- The number of grants of a host.
abbrev pub grants_of : List Grant → List ℕ → ℕ
grants_of grants host = count_by (is_to host) grants

-- The names with this one, once, at its place in the order of bytes.
abbrev pub with_host : List ℕ → List (List ℕ) → List (List ℕ)
with_host host [] = host ∷ []
with_host host (one ∷ more) =
    match_ordering (slice_cmp nat_cmp host one) (host ∷ one ∷ more) (one ∷ more) (one ∷ with_host host more)

abbrev pub hosts_among : List (List ℕ) → List (List ℕ)
hosts_among [] = []
hosts_among (host ∷ more) = with_host host (hosts_among more)

-- The names of the hosts that have a grant, each once, in the order of their bytes.
abbrev pub hosts_of : List Grant → List (List ℕ)
hosts_of grants = hosts_among (map (λ grant. grant.host) grants)
