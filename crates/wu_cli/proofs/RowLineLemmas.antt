-- In which line a row stands, line by line.
use Rattle.std.proofs.Common.{◌≡◌, ◌+◌, ℕ, suc, true, false, List, ◌∷◌, filter, refl}
use Rattle.std.specs.List.{enumerate_from}
use Rattle.wu_cli.specs.RowLines.{holds_row, number_of_line}

-- The lines that hold rows, numbered from this number on.
abbrev pub numbered_rows : ℕ → List (List ℕ) → List (ℕ × List ℕ)
numbered_rows number lines = filter (λ line. holds_row line.1) (enumerate_from number lines)

-- a line without a row is passed over
pub passed_over : (number : ℕ) (line : List ℕ) (lines : List (List ℕ)) (place : ℕ) → holds_row line ≡ false
    → number_of_line (numbered_rows number (line ∷ lines)) place ≡ number_of_line (numbered_rows (number + 1) lines) place
passed_over number line lines place none = rw none refl

-- the first line that holds a row has the first one
pub is_first : (number : ℕ) (line : List ℕ) (lines : List (List ℕ)) → holds_row line ≡ true → number_of_line (numbered_rows number (line ∷ lines)) 0 ≡ number
is_first number line lines holds = rw holds refl

-- any other row stands after it
pub is_later : (number : ℕ) (line : List ℕ) (lines : List (List ℕ)) (place : ℕ) → holds_row line ≡ true
    → number_of_line (numbered_rows number (line ∷ lines)) (suc place) ≡ number_of_line (numbered_rows (number + 1) lines) place
is_later number line lines place holds = rw holds refl
