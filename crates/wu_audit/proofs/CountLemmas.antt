-- How many a filter keeps: none, one or some.
use Rattle.std.proofs.Common.{◌≡◌, ◌∙◌, ap, ℕ, suc, zero, ◌<◌, ◌≤◌, Bool, true, false, cond, List, [], ◌∷◌, length, get_or, arith, refl, inl, inr}
use Rattle.std.specs.List.{All, AllPairs, Any, filter}
use Rattle.std.proofs.lemmas.Bool.{cases_Bool}
use Rattle.std.proofs.lemmas.List.Elements.{All-tail}

-- a test that cannot be true is false
pub false_unless : (b : Bool) → (b ≡ true → ⊥) → b ≡ false
false_unless true never = absurd (never refl)
false_unless false never = refl

-- one that cannot be false is true
pub true_unless : (b : Bool) → (b ≡ false → ⊥) → b ≡ true
true_unless true never = refl
true_unless false never = absurd (never refl)

kept_length : {X : Type 0} (p : X → Bool) (x : X) (xs : List X) (b : Bool) → p x ≡ b
    → length (filter p (x ∷ xs)) ≡ length (cond b (x ∷ filter p xs) (filter p xs))
kept_length p x xs b e = ap (λ b. length (cond b (x ∷ filter p xs) (filter p xs))) e

-- none passes
pub count_none : {X : Type 0} (p : X → Bool) (xs : List X) → All (λ x. p x ≡ false) xs → length (filter p xs) ≡ 0
count_none p [] all = refl
count_none p (x ∷ xs) all = kept_length p x xs false (all 0 x (omega arith)) ∙ count_none p xs (All-tail (λ x. p x ≡ false) x xs all)

-- no two pass
pub count_once : {X : Type 0} (p : X → Bool) (xs : List X) → AllPairs (λ x y. p x ≡ true → p y ≡ true → ⊥) xs
    → length (filter p xs) ≤ 1
count_once p [] apart = omega arith
count_once {X} p (x ∷ xs) apart = elim (cases_Bool (p x)) as (λ _. length (filter p (x ∷ xs)) ≤ 1) [
  | inl passes ↦
      let none : length (filter p xs) ≡ 0 = count_none p xs (λ k d lt. false_unless (p (get_or xs k d)) (λ e. apart 0 (suc k) d (omega arith) (omega (arith, lt)) passes e)) in
      let all : length (filter p (x ∷ xs)) ≡ suc (length (filter p xs)) = kept_length p x xs true passes in
      omega (arith, none, all)
  | inr fails ↦
      let rest : length (filter p xs) ≤ 1 = count_once p xs (λ i j d less lt. apart (suc i) (suc j) d (omega (arith, less)) (omega (arith, lt))) in
      let all : length (filter p (x ∷ xs)) ≡ length (filter p xs) = kept_length p x xs false fails in
      omega (arith, rest, all)
]

-- one passes
pub count_some : {X : Type 0} (p : X → Bool) (xs : List X) (k : ℕ) (d : X) → k < length xs → p (get_or xs k d) ≡ true → 1 ≤ length (filter p xs)
count_some p [] k d lt e = absurd (omega (arith, lt))
count_some p (x ∷ xs) zero d lt e =
    let all : length (filter p (x ∷ xs)) ≡ suc (length (filter p xs)) = kept_length p x xs true e in omega (arith, all)
count_some p (x ∷ xs) (suc k) d lt e = elim (cases_Bool (p x)) as (λ _. 1 ≤ length (filter p (x ∷ xs))) [
  | inl passes ↦ let all : length (filter p (x ∷ xs)) ≡ suc (length (filter p xs)) = kept_length p x xs true passes in omega (arith, all)
  | inr fails ↦
      let rest : 1 ≤ length (filter p xs) = count_some p xs k d (omega (arith, lt)) e in
      let all : length (filter p (x ∷ xs)) ≡ length (filter p xs) = kept_length p x xs false fails in
      omega (arith, rest, all)
]

-- where some are kept one passes
pub any_from_count : {X : Type 0} (p : X → Bool) (xs : List X) → 1 ≤ length (filter p xs) → Any (λ x. p x ≡ true) xs
any_from_count p [] some = absurd (omega (arith, some))
any_from_count {X} p (x ∷ xs) some = elim (cases_Bool (p x)) as (λ _. Any (λ x. p x ≡ true) (x ∷ xs)) [
  | inl passes ↦ (0, x, omega arith, refl, passes)
  | inr fails ↦
      let all : length (filter p (x ∷ xs)) ≡ length (filter p xs) = kept_length p x xs false fails in
      let rest : Any (λ x. p x ≡ true) xs = any_from_count p xs (omega (arith, some, all)) in
      (suc rest.0, rest.1, omega (arith, rest.2), rest.3, rest.4)
]

-- where none is kept, this one does not pass
pub none_from_count : {X : Type 0} (p : X → Bool) (xs : List X) → length (filter p xs) ≡ 0 → (k : ℕ) (d : X) → k < length xs → p (get_or xs k d) ≡ false
none_from_count p xs none k d lt = false_unless (p (get_or xs k d)) (λ e. let some : 1 ≤ length (filter p xs) = count_some p xs k d lt e in absurd (omega (arith, some, none)))
