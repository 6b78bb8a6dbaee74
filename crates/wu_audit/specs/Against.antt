-- The first place of a list at which something does not hold.
use Rattle.std.specs.Prelude.{ℕ, ◌<◌, List, length, slice_index_or, All, AllPairs, Option, Some, None, Bool, true, false}
use Rattle.std.specs.Borrow.{Bor}
use Rattle.std.specs.Fn.{FnReturnsAt}
use Rattle.std.specs.List.{AllWithin, HoldsAt}
use Rattle.std.specs.Option.{MatchOption}
use denote.Param.Members.{Shared}

-- The property holds at each place below this one, and not at this one.
pub record IsFirstAgainst {X : Type 0} (P : X → Type 0) (xs : List X) (k : ℕ) : Type 0 where
  pub within : k < length xs
  pub before : (j : ℕ) (d : X) → j < k → P (slice_index_or xs j d)
  pub against : (d : X) → ¬ P (slice_index_or xs k d)

-- `None` if the property holds of each; else the first place at which it does not.
abbrev pub FirstAgainst : {X : Type 0} → (X → Type 0) → List X → Option ℕ → Type 0
FirstAgainst P xs None = All P xs
FirstAgainst P xs (Some k) = IsFirstAgainst P xs k

-- The relation holds of each two places below this one, an earlier and a later, and fails between some earlier place
-- and this one.
pub record IsFirstPairAgainst {X : Type 0} (R : X → X → Type 0) (xs : List X) (k : ℕ) : Type 0 where
  pub within : k < length xs
  pub before : (i j : ℕ) (d : X) → i < j → j < k → R (slice_index_or xs i d) (slice_index_or xs j d)
  pub against : (i : ℕ) × (i < k) × ((d : X) → ¬ R (slice_index_or xs i d) (slice_index_or xs k d))

-- `None` if the relation holds of each two; else the first place at which it fails with an earlier one.
abbrev pub FirstPairAgainst : {X : Type 0} → (X → X → Type 0) → List X → Option ℕ → Type 0
FirstPairAgainst R xs None = AllPairs R xs
FirstPairAgainst R xs (Some k) = IsFirstPairAgainst R xs k

-- `None` if the test is true of each; else the first place at which it is false.
abbrev pub FirstFalse : {F X : Type 0} → Shared F (Bor X × Unit {0}) Bool → F → List X → Option ℕ → Type 0
FirstFalse test f xs found = MatchOption found (AllWithin (λ x. FnReturnsAt test f x true) xs 0 (length xs))
    (λ k. (k < length xs) × HoldsAt (λ x. FnReturnsAt test f x false) xs k × AllWithin (λ x. FnReturnsAt test f x true) xs 0 k)
