-- What hosts have been granted, as the grants give it.
use Rattle.std.specs.Prelude.{◌≡◌, ◌⊎◌, ℕ, ◌+◌, ◌<◌, All, List, length, map, slice_index_or}
use Rattle.std.specs.Borrow.{Bor}
use Rattle.std.specs.Cmp.Lexicographic.{slice_cmp}
use Rattle.std.specs.Ordering.{nat_cmp}
use Rattle.std.specs.declared.cmp.Ordering.{Ordering}
use Rattle.std.specs.declared.cmp.Ordering.TheVariants.{Less}
use Rattle.wu_core.specs.Hosts.{credit_of, grants_of}
use Rattle.wu_core.specs.declared.workunit.Grant.{Grant}
use Rattle.wu_loader.specs.Whole.{IsNotAbove}
use Rattle.wu_schema.specs.declared.rows.HostSum.{HostSum}

-- The order of hosts by the bytes of their names.
abbrev pub by_name : HostSum → HostSum → Ordering
by_name one other = slice_cmp nat_cmp one.name other.name

-- The grants that these references refer to.
abbrev pub referred : List (Bor Grant) → List Grant
referred grants = map (λ grant. grant.now) grants

-- The order of grants by the bytes of their hosts' names.
abbrev pub by_host : Bor Grant → Bor Grant → Ordering
by_host one other = slice_cmp nat_cmp one.now.host other.now.host

-- The host has grants, and its sums are theirs.
pub record HasGrantedSums (grants : List Grant) (host : HostSum) : Type 0 where
  pub total : host.total ≡ credit_of grants host.name
  pub count : host.grants ≡ grants_of grants host.name
  pub some : 0 < host.grants

-- The hosts are in order of their names, and no two have the same name.
abbrev pub Rise : List HostSum → Type 0
Rise hosts = (k : ℕ) (d : HostSum) → k + 1 < length hosts → by_name (slice_index_or hosts k d) (slice_index_or hosts (k + 1) d) ≡ Less

-- One of the hosts has this name.
abbrev pub IsListed : List HostSum → List ℕ → Type 0
IsListed hosts name = (k : ℕ) × (d : HostSum) × (k < length hosts) × ((slice_index_or hosts k d).name ≡ name)

-- The hosts are in order, each has the sums of its grants, and each host with a grant is there.
pub record AreHosts (grants : List Grant) (hosts : List HostSum) : Type 0 where
  pub rise : Rise hosts
  pub each : All (HasGrantedSums grants) hosts
  pub listed : All (λ (grant : Grant). IsListed hosts grant.host) grants

-- The host at this place, from 0, is the first that does not have the sums of its grants.
pub record IsUngranted (grants : List Grant) (hosts : List HostSum) (place : ℕ) : Type 0 where
  pub there : place < length hosts
  pub before : (k : ℕ) (d : HostSum) → k < place → HasGrantedSums grants (slice_index_or hosts k d)
  pub other : (d : HostSum) → ¬ HasGrantedSums grants (slice_index_or hosts place d)

-- Each host has the sums of its grants, and after the last one, at this place, a host with a grant is missing.
pub record LacksHost (grants : List Grant) (hosts : List HostSum) (place : ℕ) : Type 0 where
  pub behind : place ≡ length hosts
  pub each : All (HasGrantedSums grants) hosts
  pub unlisted : ¬ All (λ (grant : Grant). IsListed hosts grant.host) grants

-- At this place the hosts in order of name first differ from those of the grants: in their order; if that is right, in
-- the sums of a host; and if these are right, since one is missing.
abbrev pub IsWrongHost : List Grant → List HostSum → ℕ → Type 0
IsWrongHost grants hosts place = IsNotAbove by_name hosts place ⊎ (Rise hosts × (IsUngranted grants hosts place ⊎ LacksHost grants hosts place))
