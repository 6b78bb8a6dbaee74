-- Texts that are names.
use Rattle.std.specs.Prelude.{ℕ, ◌+◌, ◌-◌, ◌*◌, ◌==◌, nat_le, Bool, not, ◌&&◌, ◌||◌, if◌then◌else◌, List, [], ◌∷◌, length, Option, Some, None, Result, Ok, Err}
use Rattle.std.specs.Char.{is_ascii_alphanumeric, is_ascii_digit}
use Rattle.std.specs.List.{list_all}
use Rattle.wu_core.specs.declared.fault.Fault.{Fault}
use Rattle.wu_core.specs.declared.fault.Fault.TheVariants.{BadName}
use Rattle.wu_core.specs.Limits.{longest_name}

-- Whether a byte may stand in a name: an ASCII letter, a digit, '_' (95), '.' (46) or '-' (45).
abbrev pub is_name_byte : ℕ → Bool
is_name_byte byte = is_ascii_alphanumeric byte || byte == 95 || byte == 46 || byte == 45

-- Whether a text is a name: 1 to 64 such bytes.
abbrev pub is_name : List ℕ → Bool
is_name text = nat_le 1 (length text) && nat_le (length text) longest_name && list_all is_name_byte text

-- The text as a name; any other text is `BadName`.
abbrev pub name_of : List ℕ → Result (List ℕ) Fault
name_of text = if is_name text then Ok text else Err BadName

-- The number from 0 to 99 that digits write: one digit, or two of which the first is not '0' (48).
abbrev pub place_of : List ℕ → Option ℕ
place_of (ones ∷ []) = if is_ascii_digit ones then Some (ones - 48) else None
place_of (tens ∷ ones ∷ []) = if is_ascii_digit tens && is_ascii_digit ones && not (tens == 48) then Some (10 * (tens - 48) + (ones - 48)) else None
place_of _ = None
