-- Sums of grants: what one of them makes of the cells of hosts, and grants that have given sums.
use Rattle.wu_schema.proofs.Words.{AllByRecursion, IsPermutation, IsPermutation-filter, IsPermutation-map, Grant, List, [], ap, arith, bytes_eq, cond, false, filter, hosts_of, if◌then◌else◌, map, map-append, refl, subst, suc, sym, true, zero, ℕ, ◌++◌, ◌+◌, ◌-◌, ◌<◌, ◌∙◌, ◌∷◌, ◌≡◌}
use Rattle.std.proofs.Common.{zero-add}
use Rattle.std.specs.Prelude.{sum_by}
use Rattle.std.proofs.lemmas.Bool.{or_parts}
use Rattle.std.proofs.lemmas.Cmp.{nat_list_eq_equiv}
use Rattle.std.proofs.lemmas.List.Elements.{filter-append}
use Rattle.std.proofs.lemmas.List.Sorted.{sum_by-IsPermutation}
use Rattle.std.proofs.lemmas.List.Sums.{sum_by-append}
use Rattle.wu_core.specs.Hosts.{credit_of, grants_of, is_to, with_host}
use Rattle.wu_core.proofs.HostLemmas.{grants_more, host_comes, host_list, host_stays, hosts_more, is_among, no_credit, no_grants, once}
use Rattle.wu_store.proofs.HostNames.{same_hosts}
use Rattle.wu_store.specs.Sums.{AreSums, count_of, is_for, total_of}
use Rattle.wu_schema.specs.declared.rows.HostSum.{HostSum}

-- ---- lists behind one another

pub credit_both : (xs ys : List Grant) (host : List ℕ) → credit_of (xs ++ ys) host ≡ credit_of xs host + credit_of ys host
credit_both xs ys host = ap (sum_by (λ (g : Grant). g.credit)) (filter-append (is_to host) xs ys) ∙ sum_by-append (λ (g : Grant). g.credit) (filter (is_to host) xs) (filter (is_to host) ys)

pub grants_both : (xs ys : List Grant) (host : List ℕ) → grants_of (xs ++ ys) host ≡ grants_of xs host + grants_of ys host
grants_both xs ys host = sum_by-append (λ g. cond (is_to host g) 1 0) xs ys

pub total_both : (xs ys : List HostSum) (host : List ℕ) → total_of (xs ++ ys) host ≡ total_of xs host + total_of ys host
total_both xs ys host = ap (sum_by (λ (s : HostSum). s.total)) (filter-append (is_for host) xs ys) ∙ sum_by-append (λ (s : HostSum). s.total) (filter (is_for host) xs) (filter (is_for host) ys)

pub count_both : (xs ys : List HostSum) (host : List ℕ) → count_of (xs ++ ys) host ≡ count_of xs host + count_of ys host
count_both xs ys host = ap (sum_by (λ (s : HostSum). s.grants)) (filter-append (is_for host) xs ys) ∙ sum_by-append (λ (s : HostSum). s.grants) (filter (is_for host) xs) (filter (is_for host) ys)

-- grants that give each host the same have the same cells of hosts
pub alike_cells : {X : Type 0} (cells : List ℕ → ℕ → ℕ → X) (xs ys : List Grant) → ((host : List ℕ) → credit_of xs host ≡ credit_of ys host) → ((host : List ℕ) → grants_of xs host ≡ grants_of ys host) → host_list cells xs ≡ host_list cells ys
alike_cells cells xs ys credit count =
    let hosts = same_hosts xs ys (λ name some. let e = count name in omega (arith, some, e)) (λ name some. let e = count name in omega (arith, some, e)) in
    (λ i. map (λ name. cells name (credit name i) (count name i)) (hosts i))

-- ---- grants in another order

module _ (xs ys : List Grant) (moved : IsPermutation xs ys) where
  pub same_credit : (name : List ℕ) → credit_of ys name ≡ credit_of xs name
  same_credit name = sum_by-IsPermutation (λ (g : Grant). g.credit) _ _ (IsPermutation-filter (is_to name) xs ys moved)

  pub same_count : (name : List ℕ) → grants_of ys name ≡ grants_of xs name
  same_count name = sum_by-IsPermutation (λ g. cond (is_to name g) 1 0) xs ys moved

-- ---- one sum

module _ {X : Type 0} (cells : List ℕ → ℕ → ℕ → X) (grants more : List Grant) (sum : HostSum) (are : AreSums (sum ∷ []) more) where
  -- its host has so much more, and no other
  credit_is : (name : List ℕ) → credit_of (grants ++ more) name ≡ (if bytes_eq sum.name name then credit_of grants name + sum.total else credit_of grants name)
  credit_is name = credit_both grants more name ∙ ap (λ n. credit_of grants name + n) (sym (are.total name)) ∙ grind arith

  count_is : (name : List ℕ) → grants_of (grants ++ more) name ≡ (if bytes_eq sum.name name then grants_of grants name + sum.grants else grants_of grants name)
  count_is name = grants_both grants more name ∙ ap (λ n. grants_of grants name + n) (sym (are.count name)) ∙ grind arith

  -- the hosts are those of the grants with one to its host
  hosts_are : hosts_of (grants ++ more) ≡ with_host sum.name (hosts_of grants)
  hosts_are =
      let one : Grant = record { workunit = 0; n = 0; host = sum.name; credit = 0 } in
      let some = are.some.0 in
      same_hosts (grants ++ more) (grants ++ one ∷ []) (λ name few. grind (arith, few, count_is name, grants_more grants one name)) (λ name few. grind (arith, few, some, count_is name, grants_more grants one name)) ∙ hosts_more grants one

  abbrev old_cells : List ℕ → X
  old_cells name = cells name (credit_of grants name) (grants_of grants name)

  abbrev new_cells : List ℕ → X
  new_cells name = cells name (credit_of (grants ++ more) name) (grants_of (grants ++ more) name)

  -- only its host has other cells
  changed : (name : List ℕ) → new_cells name ≡ (if bytes_eq name sum.name then cells name (credit_of grants name + sum.total) (grants_of grants name + sum.grants) else old_cells name)
  changed name = rw (nat_list_eq_equiv.symm name sum.name) ((λ i. cells name (credit_is name i) (count_is name i)) ∙ grind arith)

  others : (names : List (List ℕ)) → is_among sum.name names ≡ false → map new_cells names ≡ map old_cells names
  others [] free = refl
  others (h ∷ names) free =
      let parts = or_parts (bytes_eq h sum.name) (is_among sum.name names) free in
      let first : new_cells h ≡ old_cells h = rw (changed h, parts.0) refl in
      (λ i. first i ∷ others names parts.1 i)

  -- a host that had no grant comes beside the others
  pub sum_new : is_among sum.name (hosts_of grants) ≡ false → IsPermutation (host_list cells grants ++ cells sum.name sum.total sum.grants ∷ []) (host_list cells (grants ++ more))
  sum_new free =
      let last : new_cells sum.name ≡ cells sum.name sum.total sum.grants = rw (changed sum.name, nat_list_eq_equiv.refl sum.name, no_credit grants sum.name free, no_grants grants sum.name free, zero-add sum.total, zero-add sum.grants) refl in
      let shown : map new_cells (hosts_of grants ++ sum.name ∷ []) ≡ host_list cells grants ++ cells sum.name sum.total sum.grants ∷ [] = map-append new_cells (hosts_of grants) (sum.name ∷ []) ∙ (λ i. others (hosts_of grants) free i ++ last i ∷ []) in
      subst (λ xs. IsPermutation xs (host_list cells (grants ++ more))) shown (subst (λ hs. IsPermutation (map new_cells (hosts_of grants ++ sum.name ∷ [])) (map new_cells hs)) (sym hosts_are) (IsPermutation-map new_cells _ _ (host_comes sum.name (hosts_of grants) free)))

  -- a host that had one changes where it stands, and no other does
  pub sum_grown : is_among sum.name (hosts_of grants) ≡ true
      → host_list cells (grants ++ more) ≡ host_list (λ name total count. if bytes_eq name sum.name then cells name (total + sum.total) (count + sum.grants) else cells name total count) grants
  sum_grown on = ap (map new_cells) (hosts_are ∙ host_stays sum.name (hosts_of grants) (once grants) on) ∙ (λ i. map (λ name. changed name i) (hosts_of grants))

-- ---- grants of which sums are given

-- so many grants to a host, the first with this credit
abbrev shared : List ℕ → ℕ → ℕ → List Grant
shared host credit zero = []
shared host credit (suc k) = record { workunit = 0; n = 0; host = host; credit = credit } ∷ shared host 0 k

shared_credit : (host name : List ℕ) (credit k : ℕ) → credit_of (shared host credit (suc k)) name ≡ cond (bytes_eq host name) credit 0
shared_credit host name credit zero = grind arith
shared_credit host name credit (suc k) =
    let first : List Grant = shared host credit 1 in
    credit_both first (shared host 0 (suc k)) name ∙ ap (λ n. credit_of first name + n) (shared_credit host name 0 k) ∙ grind arith

shared_count : (host name : List ℕ) (credit k : ℕ) → grants_of (shared host credit k) name ≡ cond (bytes_eq host name) k 0
shared_count host name credit zero = grind arith
shared_count host name credit (suc k) =
    let first : List Grant = shared host credit 1 in
    grants_both first (shared host 0 k) name ∙ ap (λ n. grants_of first name + n) (shared_count host name 0 k) ∙ grind arith

abbrev pub spread : HostSum → List Grant
spread sum = shared sum.name sum.total sum.grants

pub spread_sums : (sum : HostSum) → 0 < sum.grants → AreSums (sum ∷ []) (spread sum)
spread_sums sum some =
    let all : suc (sum.grants - 1) ≡ sum.grants = omega (arith, some) in
    record {
      total = λ name. let one : total_of (sum ∷ []) name ≡ cond (bytes_eq sum.name name) sum.total 0 = grind arith in one ∙ sym (subst (λ k. credit_of (shared sum.name sum.total k) name ≡ cond (bytes_eq sum.name name) sum.total 0) all (shared_credit sum.name name sum.total (sum.grants - 1)));
      count = λ name. let one : count_of (sum ∷ []) name ≡ cond (bytes_eq sum.name name) sum.grants 0 = grind arith in one ∙ sym (shared_count sum.name name sum.total sum.grants);
      some = (some, tt);
    }

abbrev pub AreCounted : List HostSum → Type 0
AreCounted sums = AllByRecursion (λ (s : HostSum). 0 < s.grants) sums

pub counted_both : (xs ys : List HostSum) → AreCounted xs → AreCounted ys → AreCounted (xs ++ ys)
counted_both [] ys one two = two
counted_both (x ∷ xs) ys one two = (one.0, counted_both xs ys one.1 two)

pub counted_parts : (xs : List HostSum) (s : HostSum) → AreCounted (xs ++ s ∷ []) → AreCounted xs × (0 < s.grants)
counted_parts [] s all = (tt, all.0)
counted_parts (x ∷ xs) s all = let rest = counted_parts xs s all.1 in ((all.0, rest.0), rest.1)

-- sums behind one another are those of grants behind one another
pub sums_both : (a b : List HostSum) (xs ys : List Grant) → AreSums a xs → AreSums b ys → AreSums (a ++ b) (xs ++ ys)
sums_both a b xs ys one two = record {
  total = λ name. let p = total_both a b name in let q = credit_both xs ys name in let r = one.total name in let s = two.total name in omega (arith, p, q, r, s);
  count = λ name. let p = count_both a b name in let q = grants_both xs ys name in let r = one.count name in let s = two.count name in omega (arith, p, q, r, s);
  some = counted_both a b one.some two.some;
}

pub no_sums : AreSums [] []
no_sums = record { total = λ name. refl; count = λ name. refl; some = tt }

abbrev pub spreads : List HostSum → List Grant
spreads [] = []
spreads (s ∷ sums) = spread s ++ spreads sums

pub spreads_sums : (sums : List HostSum) → AreCounted sums → AreSums sums (spreads sums)
spreads_sums [] all = no_sums
spreads_sums (s ∷ sums) all = sums_both (s ∷ []) sums (spread s) (spreads sums) (spread_sums s all.0) (spreads_sums sums all.1)
