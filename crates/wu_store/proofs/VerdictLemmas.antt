-- Verdicts and their digits.
use Rattle.std.proofs.Common.{◌≡◌, ◌<◌, ℕ, ◌+◌, ◌-◌, List, [], ◌∷◌, ◌++◌, length, get_or, take, refl, sym, ap, ◌∙◌, arith}
use Rattle.std.proofs.lemmas.List.{map-append, take_more}
use Rattle.wu_schema.specs.Stored.{verdict_digits}
use Rattle.wu_store.specs.Verdicts.{verdicts_of}

-- the digits of one verdict more
pub digits_more : (verdicts digits new : List ℕ) (i digit : ℕ) → digits ≡ verdict_digits (take i verdicts) → i < length verdicts → digit ≡ 48 + get_or verdicts i 0 → new ≡ digits ++ digit ∷ []
    → new ≡ verdict_digits (take (i + 1) verdicts)
digits_more verdicts digits new i digit so_far low same grown =
    grown ∙ ap (λ ds. ds ++ digit ∷ []) so_far ∙ ap (λ d. verdict_digits (take i verdicts) ++ d ∷ []) same
    ∙ sym (ap verdict_digits (take_more verdicts i 0 low) ∙ map-append (λ v. 48 + v) (take i verdicts) (get_or verdicts i 0 ∷ []))

-- digits of verdicts stand for them
pub verdicts_back : (verdicts : List ℕ) → verdicts_of (verdict_digits verdicts) ≡ verdicts
verdicts_back [] = refl
verdicts_back (v ∷ verdicts) = let same : (48 + v) - 48 ≡ v = omega arith in rw (same, verdicts_back verdicts) refl
