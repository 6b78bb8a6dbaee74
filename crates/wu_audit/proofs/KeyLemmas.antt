-- Rows and their keys.
use Rattle.std.proofs.Common.{◌≡◌, ◌∙◌, sym, ap, ℕ, ◌<◌, Bool, true, false, List, map, length, get_or, subst, arith, refl, Option, Some, None, Result, Ok, Err, IfOk, eqb, ◌≢◌, ◌&&◌, bytes_eq}
use Rattle.std.specs.Bool.{Decides}
use Rattle.std.proofs.lemmas.Bool.{false≢true}
use Rattle.std.proofs.lemmas.Bool.Decides.{Decides-eqb}
use Rattle.std.proofs.lemmas.Slice.Eq.{bytes_eq-Decides}
use Rattle.std.proofs.lemmas.List.{get_or-map, length-map}
use Rattle.wu_audit.proofs.PlaceLemmas.{element_of}
use Rattle.wu_audit.specs.Against.{FirstPairAgainst}
use Rattle.wu_audit.specs.Keys.{AreKeysOf}

-- keys that a function of the row gives
pub keys_from_map : {X K : Type 0} (f : X → K) (rows : List X) (keys : List K) → keys ≡ map f rows → AreKeysOf (λ x key. key ≡ f x) rows keys
keys_from_map f rows keys is = record {
  length = ap length is ∙ length-map rows f;
  each = λ k d e lt. ap (λ all. get_or all k e) is ∙ get_or-map f rows k d e lt;
}

-- no two rows are at odds exactly where no two keys are equal
pub once_by_keys : {X K : Type 0} (IsOf : X → K → Type 0) (eq : K → K → Bool) (R : X → X → Type 0) (rows : List X) (keys : List K)
    → AreKeysOf IsOf rows keys
    → ((x y : X) (a b : K) → IsOf x a → IsOf y b → (eq a b ≡ false → R x y) × (R x y → eq a b ≡ false))
    → (r : Option ℕ) → FirstPairAgainst (λ a b. eq a b ≡ false) keys r → FirstPairAgainst R rows r
once_by_keys IsOf eq R rows keys are same None apart = λ i j d less lt.
    let within : j < length keys = omega (arith, lt, are.length) in
    let e = element_of keys j within in
    (same _ _ _ _ (are.each i d e (omega (arith, less, lt))) (are.each j d e lt)).0 (apart i j e less within)
once_by_keys IsOf eq R rows keys are same (Some k) first = record {
  within = omega (arith, first.within, are.length);
  before = λ i j d less lt.
      let within : j < length rows = omega (arith, lt, first.within, are.length) in
      let e = element_of keys k first.within in
      (same _ _ _ _ (are.each i d e (omega (arith, less, within))) (are.each j d e within)).0 (first.before i j e less lt);
  against = (
    first.against.0,
    first.against.1,
    λ d holds.
        let within : k < length rows = omega (arith, first.within, are.length) in
        let e = element_of keys k first.within in
        first.against.2 e ((same _ _ _ _ (are.each first.against.0 d e (omega (arith, first.against.1, within))) (are.each k d e within)).1 holds),
  );
}

-- a test that decides a fact is false exactly where that does not hold
pub apart_by_test : {P : Type 0} (b : Bool) → Decides b P → (b ≡ false → ¬ P) × (¬ P → b ≡ false)
apart_by_test true decides = (λ e. absurd (false≢true (sym e)), λ not. absurd (not (decides.0 refl)))
apart_by_test false decides = (λ e holds. false≢true (decides.1 holds), λ not. refl)

-- what a search for a second key found of the rows
pub once_found : {X K E : Type 0} (IsOf : X → K → Type 0) (eq : K → K → Bool) (R : X → X → Type 0) (rows : List X) (keys listed : List K)
    → listed ≡ keys → AreKeysOf IsOf rows keys
    → ((x y : X) (a b : K) → IsOf x a → IsOf y b → (eq a b ≡ false → R x y) × (R x y → eq a b ≡ false))
    → (result : Result (Option ℕ) E) → IfOk result (FirstPairAgainst (λ a b. eq a b ≡ false) listed)
    → IfOk result (FirstPairAgainst R rows)
once_found IsOf eq R rows keys listed is are same (Ok r) found =
    once_by_keys IsOf eq R rows keys are same r (subst (λ all. FirstPairAgainst (λ a b. eq a b ≡ false) all r) is found)
once_found IsOf eq R rows keys listed is are same (Err e) found = found

-- two texts are apart where their test is false
pub texts_apart : (s t a b : List ℕ) → a ≡ s → b ≡ t → (bytes_eq a b ≡ false → s ≢ t) × (s ≢ t → bytes_eq a b ≡ false)
texts_apart s t a b at_a at_b = subst (λ s. (bytes_eq a b ≡ false → s ≢ t) × (s ≢ t → bytes_eq a b ≡ false)) at_a
    (subst (λ t. (bytes_eq a b ≡ false → a ≢ t) × (a ≢ t → bytes_eq a b ≡ false)) at_b (apart_by_test (bytes_eq a b) (bytes_eq-Decides a b)))

-- two numbers are
pub numbers_apart : (m n a b : ℕ) → a ≡ m → b ≡ n → (eqb a b ≡ false → m ≢ n) × (m ≢ n → eqb a b ≡ false)
numbers_apart m n a b at_a at_b = subst (λ m. (eqb a b ≡ false → m ≢ n) × (m ≢ n → eqb a b ≡ false)) at_a
    (subst (λ n. (eqb a b ≡ false → a ≢ n) × (a ≢ n → eqb a b ≡ false)) at_b (apart_by_test (eqb a b) (Decides-eqb a b)))

-- of two pairs the second parts are apart where the first are one
pub parts_apart : {P Q : Type 0} (x y : Bool) → Decides x P → Decides y Q → ((x && y) ≡ false → P → ¬ Q) × ((P → ¬ Q) → (x && y) ≡ false)
parts_apart true y one other = (λ e p. (apart_by_test y other).0 e, λ apart. (apart_by_test y other).1 (apart (one.0 refl)))
parts_apart false y one other = (λ e p. absurd (false≢true (one.1 p)), λ apart. refl)
