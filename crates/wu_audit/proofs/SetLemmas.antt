-- A set that holds the keys of rows.
use Rattle.std.proofs.Common.{◌≡◌, ◌∙◌, sym, ap, subst, ℕ, suc, zero, ◌<◌, Bool, true, false, ◌&&◌, ◌||◌, List, [], ◌∷◌, length, get_or, arith, refl, inl, inr, Option, Some, None, eqb, bytes_eq}
use Rattle.std.specs.Bool.{Decides}
use Rattle.std.specs.HashSet.{HashSet, contains}
use Rattle.std.specs.Set.{is_member}
use Rattle.std.specs.List.{All, Any, list_any}
use Rattle.std.proofs.lemmas.Bool.{cases_Bool, false≢true}
use Rattle.std.proofs.lemmas.Bool.Decides.{Decides-and, Decides-eqb, Decides-like}
use Rattle.std.proofs.lemmas.Slice.Eq.{bytes_eq-Decides}
use Rattle.std.proofs.lemmas.List.{get_or_default}
use Rattle.wu_audit.specs.Against.{FirstAgainst}
use Rattle.wu_audit.specs.Keys.{AreKeysOf}
use Rattle.wu_audit.proofs.PlaceLemmas.{element_of}

-- the first place where one of two like facts does not hold is that of the other
pub first_like : {X : Type 0} (P Q : X → Type 0) → ((x : X) → (P x → Q x) × (Q x → P x)) → (xs : List X) (r : Option ℕ)
    → FirstAgainst P xs r → FirstAgainst Q xs r
first_like P Q same xs None all = λ k d lt. (same (get_or xs k d)).0 (all k d lt)
first_like P Q same xs (Some k) first = record {
  within = first.within;
  before = λ j d lt. (same (get_or xs j d)).0 (first.before j d lt);
  against = λ d holds. first.against d ((same (get_or xs k d)).1 holds);
}

or_at : (a b c : Bool) → a ≡ b → (a || c) ≡ (b || c)
or_at a b c e = ap (λ t. t || c) e

-- an element passes
place_from_list_any : {X : Type 0} (p : X → Bool) (xs : List X) → list_any p xs ≡ true
    → (k : ℕ) × (d : X) × (k < length xs) × (p (get_or xs k d) ≡ true)
place_from_list_any p [] e = absurd (false≢true e)
place_from_list_any {X} p (x ∷ xs) e = elim (cases_Bool (p x)) as (λ _. (k : ℕ) × (d : X) × (k < length (x ∷ xs)) × (p (get_or (x ∷ xs) k d) ≡ true)) [
  | inl passes ↦ (0, x, omega arith, passes)
  | inr fails ↦
      let rest = place_from_list_any p xs (sym (or_at (p x) false (list_any p xs) fails) ∙ e) in
      (suc rest.0, rest.1, omega (arith, rest.2), rest.3)
]

list_any_from_place : {X : Type 0} (p : X → Bool) (xs : List X) (k : ℕ) (d : X) → k < length xs → p (get_or xs k d) ≡ true → list_any p xs ≡ true
list_any_from_place p [] k d lt e = absurd (omega (arith, lt))
list_any_from_place p (x ∷ xs) zero d lt e = or_at (p x) true (list_any p xs) e
list_any_from_place p (x ∷ xs) (suc k) d lt e = elim (cases_Bool (p x)) as (λ _. list_any p (x ∷ xs) ≡ true) [
  | inl passes ↦ or_at (p x) true (list_any p xs) passes
  | inr fails ↦ or_at (p x) false (list_any p xs) fails ∙ list_any_from_place p xs k d (omega (arith, lt)) e
]

-- a key passes exactly where a row is asked for
held_any : {X K : Type 0} (IsOf : X → K → Type 0) (p : K → Bool) (Q : X → Type 0) (rows : List X) (keys : List K) → AreKeysOf IsOf rows keys
    → ((x : X) (a : K) → IsOf x a → Decides (p a) (Q x))
    → (list_any p keys ≡ true → Any Q rows) × (Any Q rows → list_any p keys ≡ true)
held_any {X} {K} IsOf p Q rows keys are tells = (
  λ e. let found = place_from_list_any p keys e in
      let within : found.0 < length rows = omega (arith, found.2, are.length) in
      let x = element_of rows found.0 within in (
        found.0,
        get_or rows found.0 x,
        within,
        get_or_default rows found.0 (get_or rows found.0 x) x within,
        (tells (get_or rows found.0 x) (get_or keys found.0 found.1) (are.each found.0 x found.1 within)).0 found.3,
      ),
  λ any.
      let within : any.0 < length keys = omega (arith, any.2, are.length) in
      let a = element_of keys any.0 within in
      list_any_from_place p keys any.0 a within
      ((tells (get_or rows any.0 any.1) (get_or keys any.0 a) (are.each any.0 any.1 a any.2)).1 (subst Q (sym any.3) any.4)),
)

-- a set of the keys holds one exactly where a row is asked for
pub set_holds : {X K S : Type 0} (IsOf : X → K → Type 0) (eq : K → K → Bool) (rows : List X) (keys listed : List K) (set : HashSet K S)
    → listed ≡ keys → AreKeysOf IsOf rows keys → ((q : K) → contains eq set q ≡ is_member eq listed q)
    → (q : K) (Q : X → Type 0) → ((x : X) (a : K) → IsOf x a → Decides (eq q a) (Q x))
    → (contains eq set q ≡ true → Any Q rows) × (Any Q rows → contains eq set q ≡ true)
set_holds IsOf eq rows keys listed set is are holds q Q tells =
    let member : contains eq set q ≡ is_member eq keys q = holds q ∙ ap (λ all. is_member eq all q) is in
    let rows_tell = held_any IsOf (eq q) Q rows keys are tells in
    (λ e. rows_tell.0 (sym member ∙ e), λ any. member ∙ rows_tell.1 any)

-- so where it holds none, no row is
pub none_held : {X : Type 0} (b : Bool) (Q : X → Type 0) (rows : List X) → (b ≡ true → Any Q rows) × (Any Q rows → b ≡ true)
    → (b ≡ false → All (λ x. ¬ Q x) rows) × (All (λ x. ¬ Q x) rows → b ≡ false)
none_held true Q rows tells = (λ e. absurd (false≢true (sym e)), λ none. let any = tells.0 refl in absurd (none any.0 any.1 any.2 (subst Q (sym any.3) any.4)))
none_held false Q rows tells = (λ e k d lt holds. false≢true (tells.1 (k, get_or rows k d, lt, get_or_default rows k (get_or rows k d) d lt, holds)), λ none. refl)

-- what the tests of keys tell
pub number_told : (number n a : ℕ) → a ≡ n → Decides (eqb number a) (n ≡ number)
number_told number n a at = subst (λ n. Decides (eqb number a) (n ≡ number)) at (Decides-like (eqb number a) sym sym (Decides-eqb number a))

pub name_told : (name t a : List ℕ) → a ≡ t → Decides (bytes_eq name a) (t ≡ name)
name_told name t a at = subst (λ t. Decides (bytes_eq name a) (t ≡ name)) at (Decides-like (bytes_eq name a) sym sym (bytes_eq-Decides name a))

pub pair_told : (number m n k a b : ℕ) → a ≡ m → b ≡ k → Decides (eqb number a && eqb n b) ((m ≡ number) × (k ≡ n))
pair_told number m n k a b at_a at_b = Decides-and (eqb number a) (eqb n b) (number_told number m a at_a) (number_told n k b at_b)
