-- Grants in order of their hosts' names: those to one host stand together.
use Rattle.std.proofs.Common.{◌≡◌, ℕ, zero, suc, ◌+◌, ◌-◌, ◌<◌, ◌≤◌, true, false, List, [], ◌∷◌, length, get_or, take, drop, Bor, Ordering, Less, Equal, Greater, nat_cmp, is_eq, is_lt, is_le, bytes_eq, filter, sum_by, IsPermutation, IsSorted, inl, inr, refl, sym, ap, ◌∙◌, arith}
use Rattle.std.specs.Cmp.Lexicographic.{slice_cmp, texts_ties}
use Rattle.std.specs.List.Sorted.{IsPartitionPoint, IsPartitionedBy}
use Rattle.std.specs.Ordering.{ordering_index}
use Rattle.std.proofs.lemmas.Bool.{cases_lt}
use Rattle.std.proofs.lemmas.Cmp.{nat_list_cmp_total}
use Rattle.std.proofs.lemmas.List.{length-map}
use Rattle.std.proofs.lemmas.List.Sorted.{All-permutation, IsPermutation-sym, searchable_from_sorted}
use Rattle.std.proofs.lemmas.List.Sums.{length-filter, sum_by-cons}
use Rattle.wu_core.specs.Hosts.{credit_of, grants_of, is_to}
use Rattle.wu_core.specs.declared.workunit.Grant.{Grant}
use Rattle.wu_store.proofs.GrantSums.{same_count, same_credit}
use Rattle.wu_loader.specs.Granting.{by_host, referred, AreHosts, HasGrantedSums, IsListed, IsUngranted, IsWrongHost}
use Rattle.wu_schema.specs.declared.rows.HostSum.{HostSum}

-- ---- references to grants

sum_referred : (grants : List (Bor Grant)) → sum_by (λ (g : Grant). g.credit) (referred grants) ≡ sum_by (λ (g : Bor Grant). g.now.credit) grants
sum_referred [] = refl
sum_referred (g ∷ grants) =
    let a = sum_by-cons (λ (x : Grant). x.credit) g.now (referred grants) in
    let b = sum_by-cons (λ (x : Bor Grant). x.now.credit) g grants in
    let more = sum_referred grants in
    omega (arith, a, b, more)

-- ---- the run of one host

module _ (name : List ℕ) where
  -- how the name of a grant's host stands to this one
  abbrev pub stands : Bor Grant → Ordering
  stands g = slice_cmp nat_cmp g.now.host name

  lower : (o p : Ordering) → ordering_index o ≤ ordering_index p → is_lt p ≡ true → is_lt o ≡ true
  lower Less p le is = refl
  lower Equal Less le is = absurd (omega (arith, le))
  lower Equal Equal le is = is
  lower Equal Greater le is = is
  lower Greater Less le is = absurd (omega (arith, le))
  lower Greater Equal le is = is
  lower Greater Greater le is = is

  no_higher : (o p : Ordering) → ordering_index o ≤ ordering_index p → is_le p ≡ true → is_le o ≡ true
  no_higher Less p le is = refl
  no_higher Equal p le is = refl
  no_higher Greater Less le is = absurd (omega (arith, le))
  no_higher Greater Equal le is = absurd (omega (arith, le))
  no_higher Greater Greater le is = is

  pub parted_below : (grants : List (Bor Grant)) → IsSorted by_host grants → IsPartitionedBy (λ g. is_lt (stands g)) grants
  parted_below grants up i j d le low is = lower (stands (get_or grants i d)) (stands (get_or grants j d)) (searchable_from_sorted nat_list_cmp_total (λ (g : Bor Grant). g.now.host) grants name up i j d le low) is

  pub parted_upto : (grants : List (Bor Grant)) → IsSorted by_host grants → IsPartitionedBy (λ g. is_le (stands g)) grants
  parted_upto grants up i j d le low is = no_higher (stands (get_or grants i d)) (stands (get_or grants j d)) (searchable_from_sorted nat_list_cmp_total (λ (g : Bor Grant). g.now.host) grants name up i j d le low) is

  -- names below this one and above it are others, and one that is neither is this
  is_other_below : (a : List ℕ) → is_lt (slice_cmp nat_cmp a name) ≡ true → bytes_eq a name ≡ false
  is_other_below a low = texts_ties a name ∙ go (slice_cmp nat_cmp a name) low
    where
      go : (o : Ordering) → is_lt o ≡ true → is_eq o ≡ false
      go Less is = refl
      go Equal is = sym is
      go Greater is = refl

  is_other_above : (a : List ℕ) → is_le (slice_cmp nat_cmp a name) ≡ false → bytes_eq a name ≡ false
  is_other_above a high = texts_ties a name ∙ go (slice_cmp nat_cmp a name) high
    where
      go : (o : Ordering) → is_le o ≡ false → is_eq o ≡ false
      go Less is = refl
      go Equal is = is
      go Greater is = refl

  is_this : (a : List ℕ) → is_lt (slice_cmp nat_cmp a name) ≡ false → is_le (slice_cmp nat_cmp a name) ≡ true → bytes_eq a name ≡ true
  is_this a not_low not_high = texts_ties a name ∙ go (slice_cmp nat_cmp a name) not_low not_high
    where
      go : (o : Ordering) → is_lt o ≡ false → is_le o ≡ true → is_eq o ≡ true
      go Less low high = sym low
      go Equal low high = refl
      go Greater low high = high

  kept_none : (grants : List (Bor Grant)) → ((k : ℕ) (d : Bor Grant) → k < length grants → is_to name (get_or grants k d).now ≡ false) → filter (is_to name) (referred grants) ≡ []
  kept_none [] off = refl
  kept_none (g ∷ grants) off =
      let no : is_to name g.now ≡ false = off 0 g (omega arith) in
      rw no (kept_none grants (λ k d low. off (suc k) d (omega (arith, low))))

  kept : (start n : ℕ) (grants : List (Bor Grant)) → start + n ≤ length grants
      → ((k : ℕ) (d : Bor Grant) → k < start → is_to name (get_or grants k d).now ≡ false)
      → ((k : ℕ) (d : Bor Grant) → start ≤ k → k < start + n → is_to name (get_or grants k d).now ≡ true)
      → ((k : ℕ) (d : Bor Grant) → start + n ≤ k → k < length grants → is_to name (get_or grants k d).now ≡ false)
      → filter (is_to name) (referred grants) ≡ referred (take n (drop start grants))
  kept zero zero grants within before here behind = kept_none grants (λ k d low. behind k d (omega arith) low)
  kept zero (suc n) [] within before here behind = absurd (omega (arith, within))
  kept zero (suc n) (g ∷ grants) within before here behind =
      let yes : is_to name g.now ≡ true = here 0 g (omega arith) (omega arith) in
      let more = kept zero n grants (omega (arith, within)) (λ k d low. absurd (omega (arith, low))) (λ k d le low. here (suc k) d (omega arith) (omega (arith, low))) (λ k d le low. behind (suc k) d (omega (arith, le)) (omega (arith, low))) in
      rw yes (ap (λ gs. g.now ∷ gs) more)
  kept (suc start) n [] within before here behind = absurd (omega (arith, within))
  kept (suc start) n (g ∷ grants) within before here behind =
      let no : is_to name g.now ≡ false = before 0 g (omega arith) in
      rw no (kept start n grants (omega (arith, within)) (λ k d low. before (suc k) d (omega (arith, low))) (λ k d le low. here (suc k) d (omega (arith, le)) (omega (arith, low))) (λ k d le low. behind (suc k) d (omega (arith, le)) (omega (arith, low))))

  module _ (grants : List (Bor Grant)) (start end : ℕ) (below : IsPartitionPoint (λ g. is_lt (stands g) ≡ true) (λ g. is_lt (stands g) ≡ false) grants start) (upto : IsPartitionPoint (λ g. is_le (stands g) ≡ true) (λ g. is_le (stands g) ≡ false) grants end) where
    -- it begins where the lower names end, and that is no later than where it ends itself
    pub run_begins : start ≤ length grants → start ≤ end
    run_begins within = go grants within below.0 upto.1
      where
        go : (gs : List (Bor Grant)) → start ≤ length gs
            → ((k : ℕ) (d : Bor Grant) → 0 ≤ k → k < start → is_lt (stands (get_or gs k d)) ≡ true)
            → ((k : ℕ) (d : Bor Grant) → end ≤ k → k < length gs → is_le (stands (get_or gs k d)) ≡ false)
            → start ≤ end
        go [] within low high = omega (arith, within)
        go (g ∷ gs) within low high = elim (cases_lt end start) [
          | inl early ↦ absurd (never (stands (get_or (g ∷ gs) end g)) (low end g (omega arith) early) (high end g (omega arith) (omega (arith, early, within))))
          | inr late ↦ late
        ]
          where
            never : (o : Ordering) → is_lt o ≡ true → is_le o ≡ false → ⊥
            never Less one other = cc
            never Equal one other = cc
            never Greater one other = cc

    pub run_is : start ≤ end → end ≤ length grants → referred (take (end - start) (drop start grants)) ≡ filter (is_to name) (referred grants)
    run_is le within = sym (kept start (end - start) grants (omega (arith, le, within))
        (λ k d low. is_other_below (get_or grants k d).now.host (below.0 k d (omega arith) low))
        (λ k d from low. is_this (get_or grants k d).now.host (below.1 k d from (omega (arith, le, within, low))) (upto.0 k d (omega arith) (omega (arith, le, low))))
        (λ k d from low. is_other_above (get_or grants k d).now.host (upto.1 k d (omega (arith, le, from)) low)))

-- ---- what a host was granted, by its run

module _ (grants run : List (Bor Grant)) (host : HostSum) (is : referred run ≡ filter (is_to host.name) (referred grants)) where
  pub run_credit : credit_of (referred grants) host.name ≡ sum_by (λ (g : Bor Grant). g.now.credit) run
  run_credit = ap (λ gs. sum_by (λ (g : Grant). g.credit) gs) (sym is) ∙ sum_referred run

  pub run_count : grants_of (referred grants) host.name ≡ length run
  run_count = sym (length-filter (is_to host.name) (referred grants)) ∙ ap (λ gs. length gs) (sym is) ∙ length-map run (λ (g : Bor Grant). g.now)

  pub granted_by : host.total ≡ sum_by (λ (g : Bor Grant). g.now.credit) run → host.grants ≡ length run → 0 < host.grants → HasGrantedSums (referred grants) host
  granted_by total count some = record { total = total ∙ sym run_credit; count = count ∙ sym run_count; some = some }

  pub credit_by : HasGrantedSums (referred grants) host → host.total ≡ sum_by (λ (g : Bor Grant). g.now.credit) run
  credit_by granted = granted.total ∙ run_credit

  pub counted_by : HasGrantedSums (referred grants) host → host.grants ≡ length run
  counted_by granted = granted.count ∙ run_count

-- ---- grants in another order

granted_moved : (xs ys : List Grant) → IsPermutation xs ys → (host : HostSum) → HasGrantedSums ys host → HasGrantedSums xs host
granted_moved xs ys moved host is = record { total = is.total ∙ same_credit xs ys moved host.name; count = is.count ∙ same_count xs ys moved host.name; some = is.some }

module _ (xs ys : List Grant) (moved : IsPermutation xs ys) where
  -- the hosts of grants are those of the same grants in another order
  pub hosts_moved : (hosts : List HostSum) → AreHosts ys hosts → AreHosts xs hosts
  hosts_moved hosts are = record {
    rise = are.rise;
    each = λ k d low. granted_moved xs ys moved (get_or hosts k d) (are.each k d low);
    listed = All-permutation (λ (g : Grant). IsListed hosts g.host) ys xs (IsPermutation-sym xs ys moved) are.listed;
  }

  -- so is the first that has other sums
  pub ungranted_moved : (hosts : List HostSum) (place : ℕ) → IsUngranted xs hosts place → IsUngranted ys hosts place
  ungranted_moved hosts place un = record {
    there = un.there;
    before = λ k d low. granted_moved ys xs (IsPermutation-sym xs ys moved) (get_or hosts k d) (un.before k d low);
    other = λ d granted. un.other d (granted_moved xs ys moved (get_or hosts place d) granted);
  }

  -- and the host that is none of theirs
  pub wrong_moved : (hosts : List HostSum) (place : ℕ) → IsWrongHost xs hosts place → IsWrongHost ys hosts place
  wrong_moved hosts place (inl low) = inl low
  wrong_moved hosts place (inr it) = inr (
    it.0,
    elim it.1 [
      | inl un ↦ inl (ungranted_moved hosts place un)
      | inr lacks ↦ inr (record {
        behind = lacks.behind;
        each = λ k d low. granted_moved ys xs (IsPermutation-sym xs ys moved) (get_or hosts k d) (lacks.each k d low);
        unlisted = λ all. lacks.unlisted (All-permutation (λ (g : Grant). IsListed hosts g.host) ys xs (IsPermutation-sym xs ys moved) all);
      })
    ],
  )
