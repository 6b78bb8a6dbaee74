-- How stored values are read: exactly as the value that is stored so, or out of memory.
use Rattle.std.specs.Prelude.{◌≡◌, ◌⊎◌, ℕ, ◌<◌, length, Result, Ok, IfOk, IfErr}
use Rattle.sqlite.specs.Order.{Row, column}
use Rattle.sqlite.specs.declared.types.Value.{Value}
use Rattle.wu_core.specs.declared.fault.Fault.{Fault}
use Rattle.wu_core.specs.declared.fault.Fault.TheVariants.{Memory, NotAProject}
use Rattle.wu_core.specs.Reads.{IsOrWantsMemory}

-- The result is the value that is stored so, or `NotAProject` if there is no such value.
pub record Restores {T C : Type 0} (stored_as : T → C) (IsValue : T → Type 0) (stored : C) (result : Result T Fault) : Type 0 where
  -- What is read is a value of the type, and is stored so.
  pub value : IfOk result (λ value. (stored ≡ stored_as value) × IsValue value)
  -- Each value that is stored so is read, or the call is out of memory.
  pub found : (value : T) → IsValue value → stored ≡ stored_as value → IsOrWantsMemory result (Ok value)
  pub refused : IfErr result (λ fault. (fault ≡ Memory) ⊎ (fault ≡ NotAProject))

-- A column that is there is refused as `NotAProject` only if its type reads no such value.
abbrev pub IsUnreadable : (Value → Type 0) → Row → ℕ → Fault → Type 0
IsUnreadable IsReadable row at fault = (fault ≡ Memory) ⊎ ((fault ≡ NotAProject) × (at < length row → ¬ IsReadable (column row at)))
