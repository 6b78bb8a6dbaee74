-- Rows that are compared one by one.
use Rattle.wu_schema.proofs.Words.{List, None, Option, Row, Some, [], ap, arith, length, map, refl, slice_get, subst, suc, sym, take, zero, ℕ, ◌+◌, ◌-◌, ◌++◌, ◌∙◌, ◌∷◌, ◌≡◌, ◌≢◌}
use Rattle.std.proofs.Math.Seq.{take-append_seam}
use Rattle.std.specs.Option.{option_map}
use Rattle.std.proofs.lemmas.List.{take-map}
use Rattle.wu_loader.specs.Whole.{DiffersAt}

get_behind : {X : Type 0} (front xs : List X) → slice_get (front ++ xs) (length front) ≡ slice_get xs 0
get_behind [] xs = refl
get_behind (y ∷ ys) xs = get_behind ys xs

-- after the same front the first ones differ
pub differs_behind : {X : Type 0} (front wanted found : List X) (place : ℕ) → length front ≡ place → slice_get found 0 ≢ slice_get wanted 0 → DiffersAt (front ++ wanted) (front ++ found) (place + 1)
differs_behind front wanted found place long differ =
    let e : length front ≡ place + 1 - 1 = omega (arith, long) in
    record {
      counted = omega arith;
      before = subst (λ n. take n (front ++ found) ≡ take n (front ++ wanted)) e (take-append_seam front found ∙ sym (take-append_seam front wanted));
      other = subst (λ n. slice_get (front ++ found) n ≢ slice_get (front ++ wanted) n) e (λ is. differ (sym (get_behind front found) ∙ is ∙ get_behind front wanted));
    }

pub get_mapped : {X Y : Type 0} (f : X → Y) (xs : List X) (k : ℕ) → slice_get (map f xs) k ≡ option_map f (slice_get xs k)
get_mapped f [] k = refl
get_mapped f (x ∷ xs) zero = refl
get_mapped f (x ∷ xs) (suc k) = get_mapped f xs k

-- what is shown of rows differs only where they do, and where that tells all of them they begin alike
pub shown_differs : {X : Type 0} (shows behind : Row → Row) (stored cells : X → Row) → ((x : X) → shows (stored x) ≡ cells x) → ((x : X) → behind (cells x) ≡ stored x) → (xs : List X) (rows : List Row) → rows ≡ map behind (map shows rows)
    → (place : ℕ) → DiffersAt (map cells xs) (map shows rows) place → DiffersAt (map stored xs) rows place
shown_differs {X} shows behind stored cells same back xs rows told place differs = record {
  counted = differs.counted;
  before =
      ap (take (place - 1)) told ∙ take-map behind (place - 1) (map shows rows) ∙ ap (map behind) differs.before ∙ sym (take-map behind (place - 1) (map cells xs))
      ∙ ap (take (place - 1)) (backs xs);
  other = λ is. differs.other (get_mapped shows rows (place - 1) ∙ ap (option_map shows) is ∙ ap (option_map shows) (get_mapped stored xs (place - 1)) ∙ both (slice_get xs (place - 1)) ∙ sym (get_mapped cells xs (place - 1)));
}
  where
    both : (o : Option X) → option_map shows (option_map stored o) ≡ option_map cells o
    both None = refl
    both (Some x) = ap Some (same x)

    backs : (ys : List X) → map behind (map cells ys) ≡ map stored ys
    backs [] = refl
    backs (y ∷ ys) = λ i. back y i ∷ backs ys i
