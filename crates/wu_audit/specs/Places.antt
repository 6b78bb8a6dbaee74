-- The place of a number among workunits in ascending order of number.
use Rattle.std.specs.Prelude.{◌≡◌, ◌≢◌, ℕ, ◌<◌, ◌≤◌, List, length, slice_index_or, All, AllPairs, Option, Some, None}
use Rattle.wu_core.specs.declared.workunit.Workunit.{Workunit}

-- The workunits below this place have lower numbers, and the others do not.
pub record IsBoundOf (number : ℕ) (workunits : List Workunit) (place : ℕ) : Type 0 where
  pub within : place ≤ length workunits
  pub below : (k : ℕ) (d : Workunit) → k < place → (slice_index_or workunits k d).number < number
  pub above : (k : ℕ) (d : Workunit) → place ≤ k → k < length workunits → number ≤ (slice_index_or workunits k d).number

-- The workunit at this place has the number.
pub record StandsAt (number : ℕ) (workunits : List Workunit) (place : ℕ) : Type 0 where
  pub within : place < length workunits
  pub here : (d : Workunit) → (slice_index_or workunits place d).number ≡ number

-- The place of the number, or `None` if no workunit has it.
abbrev pub IsPlaceOf : ℕ → List Workunit → Option ℕ → Type 0
IsPlaceOf number workunits None = All (λ w. w.number ≢ number) workunits
IsPlaceOf number workunits (Some place) = StandsAt number workunits place

-- The numbers ascend.
abbrev pub Ascends : List Workunit → Type 0
Ascends = AllPairs (λ one other. one.number < other.number)
