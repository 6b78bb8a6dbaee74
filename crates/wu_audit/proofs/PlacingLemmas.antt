-- Where a number stands among workunits that ascend by number.
use Rattle.std.proofs.Common.{◌≡◌, ◌≢◌, sym, subst, ℕ, ◌<◌, ◌≤◌, List, length, get_or, arith, inl, inr}
use Rattle.std.specs.List.{All}
use Rattle.std.specs.List.Sorted.{IsNonDecreasingBy}
use Rattle.std.proofs.lemmas.Bool.{cases_lt, cases_order}
use Rattle.wu_core.specs.declared.workunit.Workunit.{Workunit}
use Rattle.wu_audit.specs.Places.{Ascends, IsBoundOf, StandsAt}

pub never_falls : (workunits : List Workunit) → Ascends workunits → IsNonDecreasingBy (λ (w : Workunit). w.number) workunits
never_falls workunits ascends i j d le lt = elim (cases_lt i j) as (λ _. (get_or workunits i d).number ≤ (get_or workunits j d).number) [
  | inl less ↦ omega (arith, ascends i j d less lt)
  | inr over ↦ let same : i ≡ j = omega (arith, le, over) in subst (λ j. (get_or workunits i d).number ≤ (get_or workunits j d).number) same (omega arith)
]

-- where it does not stand at the bound, it does nowhere
pub none_at_bound : (number : ℕ) (workunits : List Workunit) (place : ℕ) → Ascends workunits → IsBoundOf number workunits place
    → (place < length workunits → (d : Workunit) → (get_or workunits place d).number ≢ number)
    → All (λ w. w.number ≢ number) workunits
none_at_bound number workunits place ascends bound other k d lt same = elim (cases_order k place) as (λ _. ⊥) [
  | inl here ↦ other (omega (arith, lt, here)) d (subst (λ i. (get_or workunits i d).number ≡ number) here same)
  | inr apart ↦ elim apart as (λ _. ⊥) [
    | inl before ↦ absurd (omega (arith, bound.below k d before, same))
    | inr after ↦ absurd (omega (arith, bound.above place d (omega arith) (omega (arith, after, lt)), ascends place k d after lt, same))
  ]
]

-- what holds of the workunit of a number holds of each of that number
pub all_of_number : (P : Workunit → Type 0) (number : ℕ) (workunits : List Workunit) (place : ℕ) → Ascends workunits → StandsAt number workunits place
    → ((d : Workunit) → P (get_or workunits place d)) → All (λ w. number ≡ w.number → P w) workunits
all_of_number P number workunits place ascends stands holds k d lt same = elim (cases_order k place) as (λ _. P (get_or workunits k d)) [
  | inl here ↦ subst (λ i. P (get_or workunits i d)) (sym here) (holds d)
  | inr apart ↦ elim apart as (λ _. P (get_or workunits k d)) [
    | inl before ↦ absurd (omega (arith, ascends k place d before stands.within, same, stands.here d))
    | inr after ↦ absurd (omega (arith, ascends place k d after lt, same, stands.here d))
  ]
]

-- what holds of none is asked of none
pub all_of_none : (P : Workunit → Type 0) (number : ℕ) (workunits : List Workunit) → All (λ w. w.number ≢ number) workunits
    → All (λ w. number ≡ w.number → P w) workunits
all_of_none P number workunits none k d lt same = absurd (none k d lt (sym same))
