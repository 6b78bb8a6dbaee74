-- Which fault is reported of a row with several: the first one from left to right, and out of memory last.
use Rattle.std.specs.Prelude.{◌≡◌, ℕ, Bool, true, false, Result, Ok, Err}
use Rattle.wu_core.specs.declared.fault.Fault.{Fault}
use Rattle.wu_core.specs.declared.fault.Fault.TheVariants.{BadFile, Memory}
use Rattle.wu_core.specs.declared.fault.FileCause.{FileCause}
use Rattle.wu_core.specs.declared.fault.FileCause.TheVariants as cause

-- The value of a field, or the fault of its row; out of memory stays out of memory.
abbrev pub at_field : {T : Type 0} → ℕ → FileCause → Result T Fault → Result T Fault
at_field number why (Ok value) = Ok value
at_field number why (Err Memory) = Err Memory
at_field number why (Err fault) = Err (BadFile number why)

-- Both values, or the first fault; out of memory comes last.
abbrev pub both : {A B : Type 0} → Result A Fault → Result B Fault → Result (A × B) Fault
both (Ok first) (Ok second) = Ok (first, second)
both (Ok first) (Err fault) = Err fault
both (Err Memory) (Err fault) = Err fault
both (Err fault) second = Err fault

-- Whether the cause is found without memory. All are except an input and an output, since hex digits are decoded into
-- memory.
abbrev pub is_found : FileCause → Bool
is_found cause.Input = false
is_found cause.Output = false
is_found _ = true

-- A row that is refused for a cause that is found without memory is reported so.
abbrev pub TellsFound : {T : Type 0} → Result T Fault → Result T Fault → Type 0
TellsFound result expected = (row : ℕ) (why : FileCause) → is_found why ≡ true → expected ≡ Err (BadFile row why) → result ≡ Err (BadFile row why)
