-- Lists with one element in the middle, pairs of a list by recursion, and how many elements a test passes.
use Rattle.std.proofs.Common.{◌≡◌, ◌≢◌, ℕ, suc, ◌+◌, ◌<◌, ◌≤◌, Bool, true, false, List, [], ◌∷◌, ◌++◌, length, get_or, refl, ap, ◌∙◌, inl, inr, arith}
use Rattle.std.proofs.lemmas.Bool.{cases_Bool}
use Rattle.std.proofs.lemmas.List.{length-append}
use Rattle.std.proofs.lemmas.List.Elements.{All-append, All-cons, All-head, All-nil, All-tail, All-weaker, filter-append}
use Rattle.std.proofs.lemmas.List.Kept.{AllPairs-cons}
use Rattle.std.specs.List.{All, AllPairs, filter, flat_map}
use Rattle.std.specs.Prelude.{⊤}

-- ---- one in the middle

-- what holds of each of two lists in a row holds of each
pub both_parts : {X : Type 0} (P : X → Type 0) (us ws : List X) → All P (us ++ ws) → All P us × All P ws
both_parts P [] ws all = (All-nil P, all)
both_parts P (u ∷ us) ws all =
    let rest = both_parts P us ws (All-tail P u (us ++ ws) all) in
    (All-cons P u us (All-head P u (us ++ ws) all) rest.0, rest.1)

-- what holds of each holds of those before it, of it, and of those behind it
pub around : {X : Type 0} (P : X → Type 0) (us : List X) (w : X) (ws : List X) → All P (us ++ w ∷ ws) → All P us × P w × All P ws
around P us w ws all = let parts = both_parts P us (w ∷ ws) all in (parts.0, All-head P w ws parts.1, All-tail P w ws parts.1)

-- with another in its place
pub instead : {X : Type 0} (P : X → Type 0) (us : List X) (w v : X) (ws : List X) → All P (us ++ w ∷ ws) → P v → All P (us ++ v ∷ ws)
instead P us w v ws all here = let parts = around P us w ws all in All-append P us (v ∷ ws) parts.0 (All-cons P v ws here parts.2)

-- without it
pub without : {X : Type 0} (P : X → Type 0) (us : List X) (w : X) (ws : List X) → All P (us ++ w ∷ ws) → All P (us ++ ws)
without P us w ws all = let parts = around P us w ws all in All-append P us ws parts.0 parts.2

-- what holds of each of what each gives
pub of_each : {X Y : Type 0} (P : Y → Type 0) (f : X → List Y) (xs : List X) → All P (flat_map f xs) → All (λ x. All P (f x)) xs
of_each P f [] all = All-nil (λ x. All P (f x))
of_each P f (x ∷ xs) all = let parts = both_parts P (f x) (flat_map f xs) all in All-cons (λ y. All P (f y)) x xs parts.0 (of_each P f xs parts.1)

-- ---- pairs

-- R holds of each and each later one
abbrev pub Pairs : {X : Type 0} → (X → X → Type 0) → List X → Type 0
Pairs R [] = ⊤
Pairs R (x ∷ xs) = All (R x) xs × Pairs R xs

pub from_pairs : {X : Type 0} (R : X → X → Type 0) (xs : List X) → Pairs R xs → AllPairs R xs
from_pairs R [] pairs = λ i j d order low. absurd (omega (arith, low))
from_pairs R (x ∷ xs) pairs = AllPairs-cons R x xs pairs.0 (from_pairs R xs pairs.1)

pub to_pairs : {X : Type 0} (R : X → X → Type 0) (xs : List X) → AllPairs R xs → Pairs R xs
to_pairs R [] pairs = tt
to_pairs R (x ∷ xs) pairs = (
  λ i d low. pairs 0 (suc i) d (omega arith) (omega (arith, low)),
  to_pairs R xs
      (λ i j d order low. pairs (suc i) (suc j) d (omega (arith, order)) (omega (arith, low))),
)

pub pairs_append : {X : Type 0} (R : X → X → Type 0) (xs ys : List X) → Pairs R xs → Pairs R ys → All (λ x. All (R x) ys) xs → Pairs R (xs ++ ys)
pairs_append R [] ys one other across = other
pairs_append R (x ∷ xs) ys one other across =
    (All-append (R x) xs ys one.0 (All-head (λ y. All (R y) ys) x xs across), pairs_append R xs ys one.1 other (All-tail (λ y. All (R y) ys) x xs across))

-- with one in the middle replaced by one that R holds of alike
pub pairs_instead : {X : Type 0} (R : X → X → Type 0) (us : List X) (w v : X) (ws : List X) → ((x : X) → R x w → R x v) → ((x : X) → R w x → R v x)
    → Pairs R (us ++ w ∷ ws) → Pairs R (us ++ v ∷ ws)
pairs_instead R [] w v ws before behind pairs = (All-weaker (R w) (R v) behind ws pairs.0, pairs.1)
pairs_instead R (u ∷ us) w v ws before behind pairs =
    (instead (R u) us w v ws pairs.0 (before u (around (R u) us w ws pairs.0).1), pairs_instead R us w v ws before behind pairs.1)

pub pairs_without : {X : Type 0} (R : X → X → Type 0) (us : List X) (w : X) (ws : List X) → Pairs R (us ++ w ∷ ws) → Pairs R (us ++ ws)
pairs_without R [] w ws pairs = pairs.1
pairs_without R (u ∷ us) w ws pairs = (without (R u) us w ws pairs.0, pairs_without R us w ws pairs.1)

-- R holds of each before the one in the middle and it, and of it and each behind
pub pairs_around : {X : Type 0} (R : X → X → Type 0) (us : List X) (w : X) (ws : List X) → Pairs R (us ++ w ∷ ws) → All (λ u. R u w) us × All (R w) ws
pairs_around R [] w ws pairs = (All-nil (λ u. R u w), pairs.0)
pairs_around R (u ∷ us) w ws pairs =
    let rest = pairs_around R us w ws pairs.1 in
    (All-cons (λ x. R x w) u us (around (R u) us w ws pairs.0).1 rest.0, rest.1)

-- no two are in a list of at most one
pub pairs_of_one : {X : Type 0} (R : X → X → Type 0) (xs : List X) → length xs ≤ 1 → Pairs R xs
pairs_of_one R [] short = tt
pairs_of_one R (x ∷ []) short = (All-nil (R x), tt)
pairs_of_one R (x ∷ y ∷ xs) short = absurd (omega (arith, short))

-- ---- how many a test passes

pub count_append : {X : Type 0} (p : X → Bool) (xs ys : List X) → length (filter p (xs ++ ys)) ≡ length (filter p xs) + length (filter p ys)
count_append p xs ys = ap length (filter-append p xs ys) ∙ length-append (filter p xs) (filter p ys)

pub count_none : {X : Type 0} (p : X → Bool) (xs : List X) → All (λ x. p x ≡ false) xs → length (filter p xs) ≡ 0
count_none p [] none = refl
count_none p (x ∷ xs) none = let here : p x ≡ false = All-head (λ y. p y ≡ false) x xs none in rw here
    (count_none p xs (All-tail (λ y. p y ≡ false) x xs none))

pub none_counted : {X : Type 0} (p : X → Bool) (xs : List X) → length (filter p xs) ≡ 0 → All (λ x. p x ≡ false) xs
none_counted p [] zero = All-nil (λ y. p y ≡ false)
none_counted p (x ∷ xs) zero = elim (cases_Bool (p x)) [
  | inl is ↦ absurd (let some = rw is at zero in omega (arith, some))
  | inr not ↦ All-cons (λ y. p y ≡ false) x xs not (none_counted p xs (rw not at zero))
]

pub count_all : {X : Type 0} (p : X → Bool) (xs : List X) → All (λ x. p x ≡ true) xs → length (filter p xs) ≡ length xs
count_all p [] all = refl
count_all p (x ∷ xs) all = let here : p x ≡ true = All-head (λ y. p y ≡ true) x xs all in rw here
    (ap suc (count_all p xs (All-tail (λ y. p y ≡ true) x xs all)))

pub count_agree : {X : Type 0} (p q : X → Bool) (xs : List X) → All (λ x. p x ≡ q x) xs → length (filter p xs) ≡ length (filter q xs)
count_agree p q [] agree = refl
count_agree p q (x ∷ xs) agree =
    let here : p x ≡ q x = All-head (λ y. p y ≡ q y) x xs agree in
    let rest = count_agree p q xs (All-tail (λ y. p y ≡ q y) x xs agree) in
    elim (cases_Bool (q x)) [
      | inl is ↦ rw (here, is) (ap suc rest)
      | inr off ↦ rw (here, off) rest
    ]

-- one that the test passes is counted
pub counted : {X : Type 0} (p : X → Bool) (xs : List X) (k : ℕ) (d : X) → k < length xs → p (get_or xs k d) ≡ true → length (filter p xs) ≢ 0
counted p xs k d low is zero = let no : p (get_or xs k d) ≡ false = none_counted p xs zero k d low in cc
