-- Rows with rowids, and tables that refer to nothing.
use Rattle.wu_schema.proofs.Words.{Bool, Enforced, Has, Int, IsChildless, IsTrue, List, OwnsTree, Row, Schema, Table, Value, [], ap, arith, cond, false, filter, inl, inr, is_int, length, map, refl, true, ℤ, ◌&&◌, ◌∙◌, ◌∷◌, ◌≡◌}

pub filter_same : {X : Type 0} (p q : X → Bool) (xs : List X) → ((x : X) → Has xs x → p x ≡ q x) → filter p xs ≡ filter q xs
filter_same p q [] same = refl
filter_same p q (x ∷ xs) same = ap (λ b. cond b (x ∷ filter p xs) (filter p xs)) (same x (inl refl)) ∙ ap (λ ys. cond (q x) (x ∷ ys) ys) (filter_same p q xs (λ y h. same y (inr h)))

pub map_same : {X Y : Type 0} (f g : X → Y) (xs : List X) → ((x : X) → Has xs x → f x ≡ g x) → map f xs ≡ map g xs
map_same f g [] same = refl
map_same f g (x ∷ xs) same = λ i. same x (inl refl) i ∷ map_same f g xs (λ y h. same y (inr h)) i

pub no_test : (rows : List Row) → filter (λ r. true) rows ≡ rows
no_test [] = refl
no_test (r ∷ rows) = ap (λ all. r ∷ all) (no_test rows)

pub no_rows : (xs : List Row) → length xs ≡ 0 → xs ≡ []
no_rows [] h = refl
no_rows (x ∷ xs) h = absurd (omega (arith, h))

pub one_test : (b : Bool) → (b && true) ≡ b
one_test true = refl
one_test false = refl

pub int_value : (v : Value) → IsTrue (is_int v) → (id : ℤ) × (v ≡ Int id)
int_value (Int n) h = (n, refl)
int_value _ h = absurd (cc)

pub childless : (schema : Schema) (t : Table) → OwnsTree schema t → t.references ≡ [] → IsChildless schema Enforced t.tree
childless schema t own none u has is = ap (λ (x : Table). x.references) (own u has is) ∙ none
