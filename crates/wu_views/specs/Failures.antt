-- The hosts of which most present instances ended with an error or without a reply.
use Rattle.std.specs.Prelude.{◌≡◌, ℕ, ◌+◌, Bool, ◌&&◌, ◌||◌, if◌then◌else◌, IfOk, List, [], ◌∷◌, count_by, filter_map, fold, map, None, Option, Result, Some, take, Vec}
use Rattle.std.specs.Cmp.Lexicographic.{slice_cmp}
use Rattle.std.specs.Ordering.{match_ordering, nat_cmp, ordering_then}
use Rattle.std.specs.declared.cmp.Ordering.{Ordering}
use Rattle.std.specs.declared.cmp.Ordering.TheVariants.{Less}
use Rattle.std.specs.List.{AllPairs}
use Rattle.wu_core.specs.Hosts.{hosts_among}
use Rattle.wu_core.specs.World.{World}
use Rattle.wu_core.specs.declared.fault.Fault.{Fault}
use Rattle.wu_core.specs.declared.states.Outcome.{Outcome}
use Rattle.wu_core.specs.declared.workunit.Instance.{Instance}
use Rattle.wu_rules.specs.Instances.{is_error, is_error_outcome}
use Rattle.wu_rules.specs.Reporting.{is_no_reply}
use Rattle.wu_rules.specs.Sending.{is_of}
use Rattle.wu_views.specs.Counting.{all_instances}
use Rattle.wu_views.specs.declared.failures.HostFailures.{HostFailures}
use Rattle.wu_views.specs.declared.failures.TheConstants.{MOST_HOSTS}

-- ---- of instances

-- The instance ended without a reply.
abbrev pub is_unreplied : Instance → Bool
is_unreplied i = is_no_reply i.outcome

-- The host of an instance that ended with an error or without a reply.
abbrev pub failed_host : Instance → Option (List ℕ)
failed_host i = if is_error i || is_unreplied i then i.host else None

-- How many of the instances of a host ended with an error, and how many without a reply.
abbrev pub failures_of : List Instance → List ℕ → HostFailures
failures_of instances host =
    record {
      host = host;
      errors = count_by (λ i. is_of host i && is_error i) instances;
      no_replies = count_by (λ i. is_of host i && is_unreplied i) instances;
    }

-- Each host of which an instance failed, in order of name, with its numbers.
abbrev pub all_failures : List Instance → List HostFailures
all_failures instances = map (failures_of instances) (hosts_among (filter_map failed_host instances))

-- ---- the worst

-- The order of hosts by the number of their instances that failed, most first; among equals by the bytes of their names.
abbrev pub by_failures : HostFailures → HostFailures → Ordering
by_failures one other =
    ordering_then (nat_cmp (other.errors + other.no_replies) (one.errors + one.no_replies)) (slice_cmp nat_cmp one.host other.host)

-- The hosts with this one at its place.
abbrev pub with_host_failures : List HostFailures → HostFailures → List HostFailures
with_host_failures [] it = it ∷ []
with_host_failures (one ∷ more) it =
    match_ordering (by_failures it one) (it ∷ one ∷ more) (it ∷ one ∷ more) (one ∷ with_host_failures more it)

-- The hosts in that order.
abbrev pub worst_first : List HostFailures → List HostFailures
worst_first hosts = fold with_host_failures [] hosts

-- The hosts of which most present instances failed.
abbrev pub worst_hosts : World → List HostFailures
worst_hosts world = take MOST_HOSTS (worst_first (all_failures (all_instances world)))

-- ---- line by line

abbrev pub failures_of_host : List ℕ → (errors no_replies : ℕ) → HostFailures
failures_of_host host errors no_replies = record { host = host; errors = errors; no_replies = no_replies }

-- The host with so many failures more.
abbrev pub with_more_failures : (errors no_replies : ℕ) → HostFailures → HostFailures
with_more_failures errors no_replies one = record one { errors = one.errors + errors; no_replies = one.no_replies + no_replies }

-- The hosts in order of name, with so many failures more of one of them.
abbrev pub with_failures : List ℕ → (errors no_replies : ℕ) → List HostFailures → List HostFailures
with_failures host errors no_replies [] = failures_of_host host errors no_replies ∷ []
with_failures host errors no_replies (one ∷ more) =
    match_ordering (slice_cmp nat_cmp host one.host)
    (failures_of_host host errors no_replies ∷ one ∷ more)
    (with_more_failures errors no_replies one ∷ more)
    (one ∷ with_failures host errors no_replies more)

-- The hosts with an instance that was at this host, if at one, and ended so.
abbrev pub with_outcome : Option (List ℕ) → Outcome → List HostFailures → List HostFailures
with_outcome None outcome hosts = hosts
with_outcome (Some host) outcome hosts =
    if is_error_outcome outcome then with_failures host 1 0 hosts else if is_no_reply outcome then with_failures host 0 1 hosts else hosts

-- The names of the hosts rise.
abbrev pub HostsRise : List HostFailures → Type 0
HostsRise hosts = AllPairs (λ (one other : HostFailures). slice_cmp nat_cmp one.host other.host ≡ Less) hosts

-- The hosts of which instances failed are found.
abbrev pub FindsFailures : {A : Type 0} → Result (Vec HostFailures A) Fault → World → Type 0
FindsFailures result world = IfOk result (λ found. found.items ≡ all_failures (all_instances world))

-- The hosts of which most instances failed are found.
abbrev pub FindsWorstHosts : {A : Type 0} → Result (Vec HostFailures A) Fault → World → Type 0
FindsWorstHosts result world = IfOk result (λ found. found.items ≡ worst_hosts world)
