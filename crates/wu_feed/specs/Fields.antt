-- The fields of a row.
use Rattle.std.specs.Prelude.{ℕ, List, [], ◌∷◌, Option, Some, None}

-- The two fields of a row; `None` for any other number of fields.
abbrev pub two_of : List (List ℕ) → Option (List ℕ × List ℕ)
two_of (first ∷ second ∷ []) = Some (first, second)
two_of _ = None
