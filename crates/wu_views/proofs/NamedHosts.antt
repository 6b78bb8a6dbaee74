-- What is true of the names of hosts is true of those that are listed of them.
use Rattle.std.proofs.Common.{ℕ, Bool, true, false, ◌||◌, if◌then◌else◌, fold, filter_map, List, [], ◌∷◌, map, None, Option, Ordering, Less, Equal, Greater, nat_cmp, Some}
use Rattle.std.proofs.lemmas.List.Elements.{All-from_recursion, All-take, recursion_from_All}
use Rattle.std.specs.Cmp.Lexicographic.{slice_cmp}
use Rattle.std.specs.List.{All, AllByRecursion, cons_option}
use Rattle.std.specs.Option.{IfSome}
use Rattle.std.specs.Ordering.{match_ordering}
use Rattle.wu_core.specs.Hosts.{hosts_among, with_host}
use Rattle.wu_core.specs.World.{World}
use Rattle.wu_core.specs.declared.workunit.Instance.{Instance}
use Rattle.wu_rules.specs.Instances.{is_error}
use Rattle.wu_views.specs.Counting.{all_instances}
use Rattle.wu_views.specs.Failures.{all_failures, by_failures, failed_host, failures_of, is_unreplied, with_host_failures, worst_first, worst_hosts}
use Rattle.wu_views.specs.declared.failures.TheConstants.{MOST_HOSTS}
use Rattle.wu_views.specs.declared.failures.HostFailures.{HostFailures}

module _ (P : List ℕ → Type 0) where
  with_one : (host : List ℕ) → P host → (hosts : List (List ℕ)) → AllByRecursion P hosts → AllByRecursion P (with_host host hosts)
  with_one host is [] all = (is, tt)
  with_one host is (one ∷ more) all = by_order (slice_cmp nat_cmp host one) (with_one host is more all.1)
    where
      by_order : (o : Ordering) → AllByRecursion P (with_host host more) → AllByRecursion P (match_ordering o (host ∷ one ∷ more) (one ∷ more) (one ∷ with_host host more))
      by_order Less rest = (is, all)
      by_order Equal rest = all
      by_order Greater rest = (all.0, rest)

  -- of names that are listed each once
  pub among : (names : List (List ℕ)) → AllByRecursion P names → AllByRecursion P (hosts_among names)
  among [] all = tt
  among (name ∷ names) all = with_one name all.0 (hosts_among names) (among names all.1)

  -- ---- the hosts of instances that failed

  abbrev HasHost : Instance → Type 0
  HasHost i = IfSome i.host P

  abbrev IsOf : HostFailures → Type 0
  IsOf it = P it.host

  names_have : (is : List Instance) → AllByRecursion HasHost is → AllByRecursion P (filter_map failed_host is)
  names_have [] all = tt
  names_have (i ∷ is) all = go (is_error i || is_unreplied i) i.host all.0 (names_have is all.1)
    where
      go : (failed : Bool) (host : Option (List ℕ)) → IfSome host P → AllByRecursion P (filter_map failed_host is) → AllByRecursion P (cons_option (if failed then host else None) (filter_map failed_host is))
      go true (Some name) has rest = (has, rest)
      go true None has rest = rest
      go false host has rest = rest

  counted : (is : List Instance) (names : List (List ℕ)) → AllByRecursion P names → AllByRecursion IsOf (map (failures_of is) names)
  counted is [] all = tt
  counted is (name ∷ names) all = (all.0, counted is names all.1)

  placed : (hosts : List HostFailures) (it : HostFailures) → IsOf it → AllByRecursion IsOf hosts → AllByRecursion IsOf (with_host_failures hosts it)
  placed [] it has all = (has, tt)
  placed (one ∷ more) it has all = go (by_failures it one) (placed more it has all.1)
    where
      go : (o : Ordering) → AllByRecursion IsOf (with_host_failures more it) → AllByRecursion IsOf (match_ordering o (it ∷ one ∷ more) (it ∷ one ∷ more) (one ∷ with_host_failures more it))
      go Less rest = (has, all)
      go Equal rest = (has, all)
      go Greater rest = (all.0, rest)

  sorted : (first hosts : List HostFailures) → AllByRecursion IsOf first → AllByRecursion IsOf hosts → AllByRecursion IsOf (fold with_host_failures first hosts)
  sorted first [] before all = before
  sorted first (it ∷ hosts) before all = sorted (with_host_failures first it) hosts (placed first it all.0 before) all.1

  pub worst_have : (world : World) → All HasHost (all_instances world) → All IsOf (worst_hosts world)
  worst_have world all =
      let is = all_instances world in
      let names = filter_map failed_host is in
      let each = counted is (hosts_among names) (among names (names_have is (recursion_from_All HasHost is all))) in
      All-take IsOf MOST_HOSTS (worst_first (all_failures is)) (All-from_recursion IsOf (worst_first (all_failures is)) (sorted [] (all_failures is) tt each))
