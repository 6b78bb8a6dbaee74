-- What hosts were granted, and whether they are those of the grants.
use Rattle.wu_schema.proofs.Words.{AllByRecursion, IsAscending, IsPermutation, IsSorted, Row, column, map-map, Less, Has, all_from, all_has, has_mapped, hosts_of, map, mapped_has, Grant, List, [], ap, arith, get_or, length, on_total, refl, subst, suc, sym, zero, ℕ, ◌<◌, ◌∙◌, ◌∷◌, ◌≡◌, inl, inr}
use Rattle.std.specs.Cmp.{IsTotalOrder}
use Rattle.std.proofs.lemmas.Cmp.{nat_list_cmp_total}
use Rattle.wu_core.specs.Hosts.{credit_of, grants_of}
use Rattle.std.specs.Cmp.Lexicographic.{slice_cmp}
use Rattle.std.specs.Ordering.{nat_cmp}
use Rattle.std.specs.Prelude.{All}
use Rattle.wu_core.specs.Storable.{IsName}
use Rattle.sqlite_trees.proofs.ListLemmas.{all-map, ascending-map}
use Rattle.wu_store.proofs.SameWorld.{read_number, read_text}
use Rattle.wu_store.proofs.HostNames.{each_host, granted_there, host_there, same_names, some_grant}
use Rattle.wu_loader.specs.Whole.{IsNoRow}
use Rattle.wu_loader.proofs.WholeLemmas.{none_permuted}
use Rattle.wu_loader.proofs.OrderLemmas.{ascending, ascends, in_pairs, named_are, pairs_rise}
use Rattle.std.proofs.lemmas.List.Elements.{All-from_recursion, recursion_from_All}
use Rattle.wu_schema.specs.Refines.{host_of}
use Rattle.wu_schema.specs.Stored.{host_cells}
use Rattle.wu_loader.specs.Rows.{IsStoredGrant}
use Rattle.wu_schema.specs.Reading.{host_row, IsStoredHost}
use Rattle.wu_core.proofs.HostLemmas.{Ascends, below, once, pairs_ascend}
use Rattle.wu_loader.specs.Granting.{by_name, AreHosts, HasGrantedSums, IsListed, Rise}
use Rattle.wu_schema.specs.declared.rows.HostSum.{HostSum}

pub by_name_total : IsTotalOrder by_name
by_name_total = on_total (λ (h : HostSum). h.name) nat_list_cmp_total

-- hosts of which each is above the one before it rise
rise_names : (hosts : List HostSum) → Rise hosts → Ascends below (map (λ (h : HostSum). h.name) hosts)
rise_names hosts up =
    let names = ascending-map below (λ (h : HostSum). h.name) hosts (ascending by_name by_name_total hosts up) in
    pairs_ascend below _ (in_pairs (slice_cmp nat_cmp) _ names)

-- ---- hosts that are those of the grants

-- a host as the grants have it
abbrev host_with : List Grant → List ℕ → HostSum
host_with grants name = record { name = name; total = credit_of grants name; grants = grants_of grants name }

got_in : (hosts : List HostSum) (k : ℕ) (d : HostSum) → k < length hosts → Has hosts (get_or hosts k d)
got_in [] k d low = absurd (omega (arith, low))
got_in (h ∷ hosts) zero d low = inl refl
got_in (h ∷ hosts) (suc k) d low = inr (got_in hosts k d (omega (arith, low)))

module _ (grants : List Grant) (hosts : List HostSum) where
  names_are : AreHosts grants hosts → map (λ (h : HostSum). h.name) hosts ≡ hosts_of grants
  names_are are = same_names (map (λ (h : HostSum). h.name) hosts) (hosts_of grants) (rise_names hosts are.rise) (once grants) there back
    where
      there : (n : List ℕ) → Has (map (λ (h : HostSum). h.name) hosts) n → Has (hosts_of grants) n
      there n has =
          let it = has_mapped (λ (h : HostSum). h.name) hosts n has in
          let is = all_has (HasGrantedSums grants) hosts it.0 (recursion_from_All (HasGrantedSums grants) hosts are.each) it.1 in
          let some = is.some in
          let count = is.count in
          subst (Has (hosts_of grants)) (sym it.2) (granted_there grants it.0.name (omega (arith, some, count)))

      back : (n : List ℕ) → Has (hosts_of grants) n → Has (map (λ (h : HostSum). h.name) hosts) n
      back n has = all_has (Has (map (λ (h : HostSum). h.name) hosts)) (hosts_of grants) n (each_host (Has (map (λ (h : HostSum). h.name) hosts)) grants (all_from (λ (g : Grant). Has (map (λ (h : HostSum). h.name) hosts) g.host) grants (λ g in_grants.
          let listed = all_has (λ (x : Grant). IsListed hosts x.host) grants g (recursion_from_All (λ (x : Grant). IsListed hosts x.host) grants are.listed) in_grants in
          subst (Has (map (λ (h : HostSum). h.name) hosts)) listed.3 (mapped_has (λ (h : HostSum). h.name) hosts (get_or hosts listed.0 listed.1) (got_in hosts listed.0 listed.1 listed.2))))) has

  -- so their rows are
  pub hosts_are : AreHosts grants hosts → map host_row hosts ≡ map (host_of grants) (hosts_of grants)
  hosts_are are = each_row hosts (recursion_from_All (HasGrantedSums grants) hosts are.each) ∙ ap (map (host_of grants)) (names_are are)
    where
      each_row : (hosts : List HostSum) → AllByRecursion (HasGrantedSums grants) hosts → map host_row hosts ≡ map (host_of grants) (map (λ (h : HostSum). h.name) hosts)
      each_row [] each = refl
      each_row (h ∷ hosts) each = λ i. host_cells h.name (each.0.total i) (each.0.count i) ∷ each_row hosts each.1 i

-- ---- no other hosts are

one_host : (a b : HostSum) → host_row a ≡ host_row b → a ≡ b
one_host a b same = λ i. record { name = read_text (column (same i) 0); total = read_number (column (same i) 1); grants = read_number (column (same i) 2) }

module _ (grants : List Grant) where
  abbrev all_with : List (List ℕ) → List HostSum
  all_with names = map (host_with grants) names

  with_rise : (names : List (List ℕ)) → Ascends below names → IsAscending (λ a b. by_name a b ≡ Less) (all_with names)
  with_rise names up = ascending-map (λ a b. by_name a b ≡ Less) (host_with grants) names (ascends below names up)

  with_each : (names : List (List ℕ)) → ((n : List ℕ) → Has names n → Has (hosts_of grants) n) → AllByRecursion (HasGrantedSums grants) (all_with names)
  with_each [] there = tt
  with_each (n ∷ names) there = (record { total = refl; count = refl; some = some_grant grants n (there n (inl refl)) }, with_each names (λ m has. there m (inr has)))

  with_listed : (names : List (List ℕ)) (name : List ℕ) → Has names name → IsListed (all_with names) name
  with_listed [] name has = absurd has
  with_listed (n ∷ names) name (inl same) = (0, host_with grants n, omega arith, sym same)
  with_listed (n ∷ names) name (inr later) = let it = with_listed names name later in let low = it.2 in (suc it.0, it.1, omega (arith, low), it.3)

  hosts_with : AreHosts grants (all_with (hosts_of grants))
  hosts_with = record {
    rise = pairs_rise by_name _ (in_pairs by_name _ (with_rise (hosts_of grants) (once grants)));
    each = All-from_recursion (HasGrantedSums grants) (all_with (hosts_of grants)) (with_each (hosts_of grants) (λ n has. has));
    listed = All-from_recursion (λ (g : Grant). IsListed (all_with (hosts_of grants)) g.host) grants (all_from (λ (g : Grant). IsListed (all_with (hosts_of grants)) g.host) grants (λ g has. with_listed (hosts_of grants) g.host (host_there grants g has)));
  }

  -- hosts whose rows are those of the grants' hosts are these
  pub hosts_must : (hosts : List HostSum) → IsSorted by_name hosts → IsPermutation (map (host_of grants) (hosts_of grants)) (map host_row hosts) → AreHosts grants hosts
  hosts_must hosts up same =
      let all = all_with (hosts_of grants) in
      let rows : IsPermutation (map host_row all) (map host_row hosts) = subst (λ rs. IsPermutation rs (map host_row hosts)) (sym (map-map host_row (host_with grants) (hosts_of grants))) same in
      subst (AreHosts grants) (sym (named_are (λ (h : HostSum). h.name) host_row (λ h. refl) one_host all hosts (with_rise (hosts_of grants) (once grants)) up rows)) hosts_with

-- names of grants are names of hosts
pub stored_hosts : (grants : List Grant) → All IsStoredGrant grants → All IsStoredHost (all_with grants (hosts_of grants))
stored_hosts grants stored =
    let names = each_host IsName grants (all_from (λ (g : Grant). IsName g.host) grants (λ g has. (all_has IsStoredGrant grants g (recursion_from_All IsStoredGrant grants stored) has).host)) in
    All-from_recursion IsStoredHost (all_with grants (hosts_of grants)) (all-map IsStoredHost (host_with grants) (hosts_of grants) names)

-- a row that is that of no host is in the way
pub never_hosts : (rows : List Row) (grants : List Grant) (place : ℕ) → IsNoRow (λ _. host_row) IsStoredHost rows place → All IsStoredGrant grants → ¬ IsPermutation (map (host_of grants) (hosts_of grants)) rows
never_hosts rows grants place none stored same =
    none_permuted host_row IsStoredHost rows place none (all_with grants (hosts_of grants)) (stored_hosts grants stored) (subst (λ rs. IsPermutation rs rows) (sym (map-map host_row (host_with grants) (hosts_of grants))) same)
