-- Texts that name an instance.
use Rattle.std.specs.Prelude.{◌≡◌, ◌≤◌, ◌<◌, ◌+◌, ℕ, length, slice_index, ◌==◌, Bool, true, false, ◌&&◌, if◌then◌else◌, List, ◌++◌, codes, Option, Some, None, Result, Ok, Err}
use Rattle.std.specs.Fmt.{decimal}
use Rattle.std.specs.List.{list_any, before_last, after_last}
use Rattle.wu_core.specs.declared.fault.Fault.{Fault}
use Rattle.wu_core.specs.declared.fault.Fault.TheVariants.{BadName}
use Rattle.wu_core.specs.declared.name.ResultName.{ResultName}
use Rattle.wu_core.specs.Names.{is_name, place_of}

abbrev pub is_underscore : ℕ → Bool
is_underscore byte = byte == 95

-- The name of the instance at a place; without a place `BadName`.
abbrev pub instance_of : List ℕ → Option ℕ → Result ResultName Fault
instance_of name (Some n) = Ok (record { workunit = name; n = n })
instance_of name None = Err BadName

-- The name of an instance: the workunit's name, '_' and the place in decimal.
abbrev pub result_name_text : ResultName → List ℕ
result_name_text name = name.workunit ++ codes "_" ++ decimal name.n

-- The name of the workunit before the last '_', and the place after it; any other text is `BadName`.
abbrev pub result_name_of : List ℕ → Result ResultName Fault
result_name_of text =
    if list_any is_underscore text && is_name (before_last is_underscore text)
    then instance_of (before_last is_underscore text) (place_of (after_last is_underscore text))
    else Err BadName

-- The text has no '_' from this place on.
abbrev pub IsFreeFrom : List ℕ → ℕ → Type 0
IsFreeFrom text from = (k : ℕ) → from ≤ k → k < length text → is_underscore (slice_index text k) ≡ false

-- This is the place of the last '_'.
abbrev pub IsLastUnderscore : List ℕ → ℕ → Type 0
IsLastUnderscore text i = (i < length text) × (is_underscore (slice_index text i) ≡ true) × IsFreeFrom text (i + 1)
