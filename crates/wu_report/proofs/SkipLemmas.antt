-- Verdicts that are no reason to skip, and the rows of a file with their numbers.
use Rattle.std.proofs.Common.{◌≡◌, ℕ, ◌+◌, ◌<◌, ◌==◌, List, [], ◌∷◌, None, arith, find, get_or, length, refl, sym, ◌∙◌}
use Rattle.std.proofs.lemmas.Bool.{ne_eqb}
use Rattle.std.proofs.lemmas.Grind.{get_or_default_zero}
use Rattle.std.proofs.lemmas.List.FromFn.{get_or-enumerate_from}
use Rattle.std.proofs.lemmas.Option.{none-some}
use Rattle.std.specs.List.{enumerate_from}
use Rattle.wu_core.specs.Codes.{Decodes}

-- a number that is read as no value is the code of none
pub none_has : {T : Type 0} (code_of : T → ℕ) (number : ℕ) → Decodes code_of number None → (values : List T)
    → find (λ value. code_of value == number) values ≡ None
none_has code_of number none [] = refl
none_has code_of number none (value ∷ values) =
    rw (ne_eqb (code_of value) number (λ same. none-some value (none.found value same))) (none_has code_of number none values)

-- a row with its number, counted from 2
pub row_at : (xs : List ℕ) (i : ℕ) (row : ℕ × ℕ) → i < length xs → row.0 ≡ i + 2 → row.1 ≡ get_or xs i 0 → row ≡ get_or (enumerate_from 2 xs) i row
row_at xs i row within e1 e2 =
    let place : 2 + i ≡ row.0 = omega arith in
    let entry : get_or xs i row.1 ≡ row.1 = get_or_default_zero xs i row.1 within ∙ sym e2 in
    sym (get_or-enumerate_from 2 xs i row within ∙ rw (place, entry) refl)
