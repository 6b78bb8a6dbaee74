-- Grants of different places, each of a workunit and an instance that there may be, are few, and so their credit is
-- bounded.
use Rattle.std.proofs.Common.{◌≡◌, ◌≢◌, ℕ, suc, ◌+◌, ◌-◌, ◌*◌, ◌<◌, ◌≤◌, true, false, List, [], ◌∷◌, map, length, filter, inl, inr, arith, ne_eqb}
use Rattle.std.proofs.lemmas.Bool.Decides.{eqb_tells}
use Rattle.std.proofs.lemmas.List.{length-map}
use Rattle.std.proofs.lemmas.List.Elements.{All-filter, recursion_from_All}
use Rattle.std.proofs.lemmas.List.Kept.{AllPairs-filter}
use Rattle.std.proofs.lemmas.List.Sums.{sum_by-le}
use Rattle.std.proofs.lemmas.Map.Steps.{length-le_from_distinct_below}
use Rattle.std.proofs.Math.Dec.{eqb}
use Rattle.std.specs.Prelude.{⊤}
use Rattle.std.specs.List.{All, AllByRecursion, AllPairs, IsDistinct, list_any, sum_by}
use Rattle.wu_core.specs.declared.workunit.Grant.{Grant}
use Rattle.wu_core.specs.Hosts.{credit_of, is_to}
use Rattle.wu_core.specs.Limits.{most_credit, most_instances, most_workunits}

-- a grant is of a workunit and of an instance that there may be, and of a credit that there may be
pub record IsPlaced (g : Grant) : Type 0 where
  pub workunit : (1 ≤ g.workunit) × (g.workunit ≤ most_workunits)
  pub instance : g.n < most_instances
  pub credit : g.credit ≤ most_credit

-- two grants are of different instances
abbrev pub IsOther : Grant → Grant → Type 0
IsOther g h = g.workunit ≡ h.workunit → g.n ≢ h.n

-- the place of a grant among all that there may be
abbrev place : Grant → ℕ
place g = (g.workunit - 1) * 100 + g.n

other_places : (g h : Grant) → IsPlaced g → IsPlaced h → IsOther g h → eqb (place g) (place h) ≡ false
other_places g h one two other = ne_eqb (place g) (place h) (λ same. other (same_workunit same) (same_place same))
  where
    same_workunit : place g ≡ place h → g.workunit ≡ h.workunit
    same_workunit same = omega (arith, same, one.workunit.0, one.instance, two.workunit.0, two.instance)

    same_place : place g ≡ place h → g.n ≡ h.n
    same_place same = omega (arith, same, one.workunit.0, one.instance, two.workunit.0, two.instance)

-- each grant placed, and another one than those after it
abbrev AreApart : List Grant → Type 0
AreApart [] = ⊤
AreApart (g ∷ gs) = AllByRecursion (IsOther g) gs × AreApart gs

pairs_apart : (gs : List Grant) → AllPairs IsOther gs → AreApart gs
pairs_apart [] pairs = tt
pairs_apart (g ∷ gs) pairs = (
  recursion_from_All (IsOther g) gs (λ i d low. pairs 0 (suc i) d (omega arith) (omega (arith, low))),
  pairs_apart gs (λ i j d order low. pairs (suc i) (suc j) d (omega (arith, order)) (omega (arith, low))),
)

different : (g : Grant) → IsPlaced g → (gs : List Grant) → AllByRecursion IsPlaced gs → AllByRecursion (IsOther g) gs
    → AllByRecursion (λ y. eqb (place g) y ≡ false) (map place gs)
different g one [] placed others = tt
different g one (h ∷ gs) placed others = (other_places g h one placed.0 others.0, different g one gs placed.1 others.1)

distinct : (gs : List Grant) → AllByRecursion IsPlaced gs → AreApart gs → IsDistinct eqb (map place gs)
unfolding IsDistinct
distinct [] placed apart = tt
distinct (g ∷ gs) placed apart = (different g placed.0 gs placed.1 apart.0, distinct gs placed.1 apart.1)

-- each place is below how many there may be
below_all : (q : ℕ) (gs : List Grant) → AllByRecursion IsPlaced gs → list_any (eqb q) (map place gs) ≡ true → q < most_workunits * most_instances
below_all q [] placed found = cc
below_all q (g ∷ gs) placed found = elim (eqb_tells q (place g)) [
  | inl here ↦ (let low = placed.0.workunit.1 in let few = placed.0.instance in let same = here.1 in omega (arith, low, few, same))
  | inr there ↦ below_all q gs placed.1 (rw there.0 at found)
]

pub few_grants : (gs : List Grant) → All IsPlaced gs → AllPairs IsOther gs → length gs ≤ most_workunits * most_instances
few_grants gs placed pairs =
    let placed = recursion_from_All IsPlaced gs placed in
    let few = length-le_from_distinct_below (map place gs) (most_workunits * most_instances) (distinct gs placed (pairs_apart gs pairs)) (λ q found. below_all q gs placed found) in
    let long = length-map gs place in
    omega (arith, few, long)

-- all credit is at most 10^17
pub bounded_credit : (gs : List Grant) → All IsPlaced gs → AllPairs IsOther gs → sum_by (λ (g : Grant). g.credit) gs ≤ most_workunits * most_instances * most_credit
bounded_credit gs placed pairs =
    let each = sum_by-le (λ (g : Grant). g.credit) most_credit gs (λ i d low. (placed i d low).credit) in
    let few = few_grants gs placed pairs in
    omega (arith, each, few)

-- and so is that of each host
pub bounded_total : (gs : List Grant) → All IsPlaced gs → AllPairs IsOther gs → (host : List ℕ) → credit_of gs host ≤ most_workunits * most_instances * most_credit
bounded_total gs placed pairs host =
    bounded_credit (filter (is_to host) gs) (All-filter (is_to host) IsPlaced gs placed) (AllPairs-filter IsOther (is_to host) gs pairs)
