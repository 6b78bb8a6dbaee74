-- The shape of a moment's text.
use Rattle.std.proofs.Common.{◌≡◌, ◌≤◌, ◌<◌, ◌+◌, ℕ, Bool, true, false, ◌&&◌, List, [], ◌∷◌, length, get_or, drop, zero, suc, ◌==◌, nat_lt, arith, refl, sym, ◌∙◌}
use Rattle.std.proofs.lemmas.Bool.{and_parts}
use Rattle.std.proofs.lemmas.Bool.Decides.{nat_tests}
use Rattle.std.proofs.lemmas.List.{drop_more, drop_all}
use Rattle.std.specs.List.{list_all, zip}
use Rattle.wu_feed.specs.Moments.{fits, four_at, has_shape, moment_at, moment_of, shape_of_moment, two_at}

-- the bytes of two lists fit, place by place
abbrev pub fit_all : List ℕ → List ℕ → Bool
fit_all shape text = list_all (λ pair. fits pair.0 pair.1) (zip shape text)

-- the first byte is one of the rest
pub fit_all-drop : (shape text : List ℕ) (i : ℕ) → i < length shape → i < length text
    → fit_all (drop i shape) (drop i text) ≡ (fits (get_or shape i 0) (get_or text i 0) && fit_all (drop (i + 1) shape) (drop (i + 1) text))
fit_all-drop shape text i a b = rw (drop_more shape i 0 a, drop_more text i 0 b) refl

fits_at : (shape text : List ℕ) (i : ℕ) → i < length shape → i < length text → fit_all shape text ≡ true → fits (get_or shape i 0) (get_or text i 0) ≡ true
fits_at [] text i a b h = absurd (omega arith)
fits_at (s ∷ shape) [] i a b h = absurd (omega arith)
fits_at (s ∷ shape) (t ∷ text) zero a b h = (and_parts (fits s t) (fit_all shape text) h).0
fits_at (s ∷ shape) (t ∷ text) (suc i) a b h = fits_at shape text i (omega arith) (omega arith) (and_parts (fits s t) (fit_all shape text) h).1

long_of : (text : List ℕ) → has_shape text ≡ true → length text ≡ 20
long_of text h = grind (arith, nat_tests, and_parts (length text == 20) (fit_all shape_of_moment text) h)

-- a place of the shape is one of the text
pub within_text : (text : List ℕ) (i : ℕ) → nat_lt i 20 ≡ true → has_shape text ≡ true → i < length text
within_text text i within h =
    let long = long_of text h in
    grind (arith, nat_tests)

-- what the shape says of a byte
pub shaped_at : (text : List ℕ) (i : ℕ) → nat_lt i 20 ≡ true → has_shape text ≡ true → fits (get_or shape_of_moment i 0) (get_or text i 0) ≡ true
shaped_at text i within h =
    let small : i < 20 = grind (arith, nat_tests) in
    fits_at shape_of_moment text i small (within_text text i within h) (and_parts (length text == 20) (fit_all shape_of_moment text) h).1

pub has_shape-of : (text : List ℕ) → length text ≡ 20 → has_shape text ≡ fit_all shape_of_moment text
has_shape-of text long = rw long refl

-- a byte that doesn't fit
pub misfit : (text : List ℕ) (i : ℕ) → length text ≡ 20 → i < length text → fit_all (drop i shape_of_moment) (drop i text) ≡ fit_all shape_of_moment text
    → fits (get_or shape_of_moment i 0) (get_or text i 0) ≡ false → has_shape text ≡ false
misfit text i long within so_far differs =
    has_shape-of text long ∙ sym so_far ∙ fit_all-drop shape_of_moment text i (omega arith) within ∙ rw differs refl

-- a byte that fits
pub one_more : (text : List ℕ) (i : ℕ) → length text ≡ 20 → i < length text → fit_all (drop i shape_of_moment) (drop i text) ≡ fit_all shape_of_moment text
    → fits (get_or shape_of_moment i 0) (get_or text i 0) ≡ true → fit_all (drop (i + 1) shape_of_moment) (drop (i + 1) text) ≡ fit_all shape_of_moment text
one_more text i long within so_far same =
    let step = fit_all-drop shape_of_moment text i (omega arith) within in
    sym (rw same at step) ∙ so_far

-- every byte fits
pub all_fit : (text : List ℕ) (i : ℕ) → length text ≡ 20 → length text ≤ i → fit_all (drop i shape_of_moment) (drop i text) ≡ fit_all shape_of_moment text
    → has_shape text ≡ true
all_fit text i long past so_far =
    let none : drop i shape_of_moment ≡ [] = drop_all i shape_of_moment (omega arith) in
    has_shape-of text long ∙ sym so_far ∙ rw none refl

-- a text of the shape is the moment at its numbers
pub moment_of_parts : (text : List ℕ) (year month day hour minute second : ℕ) → has_shape text ≡ true → year ≡ four_at text 0
    → month ≡ two_at text 5 → day ≡ two_at text 8 → hour ≡ two_at text 11 → minute ≡ two_at text 14 → second ≡ two_at text 17
    → moment_at year month day hour minute second ≡ moment_of text
moment_of_parts text year month day hour minute second shaped y m d h min s = rw (shaped, y, m, d, h, min, s) refl
