-- What sets of keys contain, and what a workunit asks of them.
use Rattle.std.specs.Prelude.{◌≡◌, ℕ, ◌==◌, nat_eq, Bool, true, false, ◌&&◌, List, bytes_eq}
use Rattle.std.specs.Borrow.{Bor}
use Rattle.std.specs.HashSet.{HashSet, contains, contains_by}
use Rattle.wu_core.specs.declared.states.ValidateState.{ValidateState}
use Rattle.wu_core.specs.declared.workunit.Workunit.{Workunit}
use Rattle.wu_rules.specs.Consistent.{is_done, is_valid_at, is_valid_verdict}

-- Whether the set contains the instance of this workunit and number.
abbrev pub holds_grant : {S : Type 0} → HashSet (ℕ × ℕ) S → ℕ → ℕ → Bool
holds_grant granted number n = contains (λ a b. a.0 == b.0 && a.1 == b.1) granted (number, n)

-- Whether the set contains the number.
abbrev pub holds_number : {S : Type 0} → HashSet ℕ S → ℕ → Bool
holds_number numbers number = contains nat_eq numbers number

-- Whether the set contains the name.
abbrev pub holds_name : {S : Type 0} → HashSet (Bor (List ℕ)) S → List ℕ → Bool
holds_name names name = contains_by (λ other. bytes_eq name other.now) names

-- If the verdict is VALID, the set contains the instance.
abbrev pub IsHeldIfValid : {S : Type 0} → HashSet (ℕ × ℕ) S → ℕ → ℕ → ValidateState → Type 0
IsHeldIfValid granted number n verdict = is_valid_verdict verdict ≡ true → holds_grant granted number n ≡ true

-- The set contains each VALID instance of the workunit.
abbrev pub AreValidHeld : {S : Type 0} → HashSet (ℕ × ℕ) S → Workunit → Type 0
AreValidHeld granted w = (n : ℕ) → is_valid_at w.instances n ≡ true → holds_grant granted w.number n ≡ true

-- If the workunit is DONE, the set contains its number.
abbrev pub IsHeldIfDone : {S : Type 0} → HashSet ℕ S → Workunit → Type 0
IsHeldIfDone numbers w = is_done w ≡ true → holds_number numbers w.number ≡ true

-- If the workunit is not DONE, the set does not contain its name.
abbrev pub IsNotHeldUnlessDone : {S : Type 0} → HashSet (Bor (List ℕ)) S → Workunit → Type 0
IsNotHeldUnlessDone names w = is_done w ≡ false → holds_name names w.name ≡ false
