-- In which line of a file its rows stand.
use Rattle.std.specs.Prelude.{ℕ, ◌==◌, ◌-◌, Bool, true, false, not, List, [], ◌∷◌, filter, slice_get}
use Rattle.std.specs.List.{enumerate_from, slice_split}
use Rattle.std.specs.Option.{option_map_or}

-- Whether a line holds a row: it is neither empty nor a carriage return alone.
abbrev pub holds_row : List ℕ → Bool
holds_row [] = false
holds_row (byte ∷ []) = not (byte == 13)
holds_row line = true

-- The number of the line at this place, from 0, among numbered lines; 0 if there are not so many.
abbrev pub number_of_line : List (ℕ × List ℕ) → ℕ → ℕ
number_of_line lines place = option_map_or (λ line. line.0) (slice_get lines place) 0

-- Which of these lines, from 1, holds the row of this number, from 1.
abbrev pub line_at_row : List (List ℕ) → ℕ → ℕ
line_at_row lines row = number_of_line (filter (λ line. holds_row line.1) (enumerate_from 1 lines)) (row - 1)

-- In which line of a file the row of this number stands.
abbrev pub line_in_file : List ℕ → ℕ → ℕ
line_in_file bytes row = line_at_row (slice_split (λ byte. byte == 10) bytes) row
