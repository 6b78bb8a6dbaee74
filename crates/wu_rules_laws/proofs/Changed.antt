-- Tests and counts over lists whose elements were changed, each by its place.
use Rattle.std.proofs.Common.{◌≡◌, ℕ, zero, suc, ◌+◌, Bool, true, false, cond, ◌&&◌, ◌||◌, List, [], ◌∷◌, map, length, filter, replicate, refl, ap, ◌∙◌, ◌≢◌, arith}
use Rattle.std.specs.List.{list_any, list_all, enumerate_from}
use Rattle.wu_rules.proofs.Lists.{count_step}

pub or_left : (a b : Bool) → (a || b) ≡ false → a ≡ false
or_left a b e = grind arith

pub or_right : (a b : Bool) → (a || b) ≡ false → b ≡ false
or_right a b e = grind arith

pub or_false : (a : Bool) → (a || false) ≡ a
or_false a = grind arith

pub or_from : (a b : Bool) → a ≡ false → b ≡ false → (a || b) ≡ false
or_from a b e f = cc

pub and_false : (a b : Bool) → b ≡ false → (a && b) ≡ false
and_false a b e = grind arith

-- where a change needs a test, what changes passes it
pub only_where : {A : Type 0} (b : Bool) (x y : A) → (b ≡ false → x ≡ y) → x ≢ y → b ≡ true
only_where true x y same changed = refl
only_where false x y same changed = absurd (changed (same refl))

-- what both branches have, a choice has
pub cond_has : {A : Type 0} (P : A → Type 0) (b : Bool) (x y : A) → P x → P y → P (cond b x y)
cond_has P true x y h k = h
cond_has P false x y h k = k

pub cond_keeps : {A X : Type 0} (g : A → X) (b : Bool) (r w : A) → g r ≡ g w → g (cond b r w) ≡ g w
cond_keeps g true r w e = e
cond_keeps g false r w e = refl

pub any_false-map : {A B : Type 0} (p : B → Bool) (f : A → B) → ((x : A) → p (f x) ≡ false) → (xs : List A) → list_any p (map f xs) ≡ false
any_false-map p f never [] = refl
any_false-map p f never (x ∷ xs) = or_from (p (f x)) (list_any p (map f xs)) (never x) (any_false-map p f never xs)

pub any_false-replicate : {A : Type 0} (p : A → Bool) (x : A) → p x ≡ false → (n : ℕ) → list_any p (replicate n x) ≡ false
any_false-replicate p x e zero = refl
any_false-replicate p x e (suc n) = or_from (p x) (list_any p (replicate n x)) e (any_false-replicate p x e n)

-- a change that leaves alone what fails a test leaves a list alone where all fail it
pub map-untouched : {A : Type 0} (p : A → Bool) (f : A → A) → ((x : A) → p x ≡ false → f x ≡ x) → (xs : List A) → list_any p xs ≡ false → map f xs ≡ xs
map-untouched p f same [] e = refl
map-untouched p f same (x ∷ xs) e =
    let h = same x (or_left (p x) (list_any p xs) e) in
    let r = map-untouched p f same xs (or_right (p x) (list_any p xs) e) in
    cc

abbrev pub placed : {A B : Type 0} → (ℕ → A → B) → ℕ → List A → List B
placed f s xs = map (λ p. f p.0 p.1) (enumerate_from s xs)

pub placed-untouched : {A : Type 0} (p : ℕ → A → Bool) (f : ℕ → A → A) → ((n : ℕ) (x : A) → p n x ≡ false → f n x ≡ x) → (s : ℕ) (xs : List A) → list_any (λ q. p q.0 q.1) (enumerate_from s xs) ≡ false → placed f s xs ≡ xs
placed-untouched p f same s [] e = refl
placed-untouched p f same s (x ∷ xs) e =
    let h = same s x (or_left (p s x) (list_any (λ q. p q.0 q.1) (enumerate_from (s + 1) xs)) e) in
    let r = placed-untouched p f same (s + 1) xs (or_right (p s x) (list_any (λ q. p q.0 q.1) (enumerate_from (s + 1) xs)) e) in
    cc

pub any_false-placed : {A B : Type 0} (p : ℕ → B → Bool) (f : ℕ → A → B) → ((n : ℕ) (x : A) → p n (f n x) ≡ false) → (s : ℕ) (xs : List A) → list_any (λ q. p q.0 q.1) (enumerate_from s (placed f s xs)) ≡ false
any_false-placed p f never s [] = refl
any_false-placed p f never s (x ∷ xs) = or_from (p s (f s x)) (list_any (λ q. p q.0 q.1) (enumerate_from (s + 1) (placed f (s + 1) xs))) (never s x) (any_false-placed p f never (s + 1) xs)

pub any-placed : {A B : Type 0} (p : B → Bool) (q : A → Bool) (f : ℕ → A → B) → ((n : ℕ) (x : A) → p (f n x) ≡ q x) → (s : ℕ) (xs : List A) → list_any p (placed f s xs) ≡ list_any q xs
any-placed p q f same s [] = refl
any-placed p q f same s (x ∷ xs) = let e = same s x in let r = any-placed p q f same (s + 1) xs in cc

pub all-placed : {A B : Type 0} (p : B → Bool) (q : A → Bool) (f : ℕ → A → B) → ((n : ℕ) (x : A) → p (f n x) ≡ q x) → (s : ℕ) (xs : List A) → list_all p (placed f s xs) ≡ list_all q xs
all-placed p q f same s [] = refl
all-placed p q f same s (x ∷ xs) = let e = same s x in let r = all-placed p q f same (s + 1) xs in cc

pub count-placed : {A B : Type 0} (p : B → Bool) (q : A → Bool) (f : ℕ → A → B) → ((n : ℕ) (x : A) → p (f n x) ≡ q x) → (s : ℕ) (xs : List A) → length (filter p (placed f s xs)) ≡ length (filter q xs)
count-placed p q f same s [] = refl
count-placed p q f same s (x ∷ xs) = count_step (p (f s x)) (q x) (f s x) x (filter p (placed f (s + 1) xs)) (filter q xs) (same s x) (count-placed p q f same (s + 1) xs)

pub length-placed : {A B : Type 0} (f : ℕ → A → B) (s : ℕ) (xs : List A) → length (placed f s xs) ≡ length xs
length-placed f s [] = refl
length-placed f s (x ∷ xs) = ap (λ n. suc n) (length-placed f (s + 1) xs)

-- how many of the same are counted
pub count-replicate-all : {A : Type 0} (p : A → Bool) (x : A) → p x ≡ true → (n : ℕ) → length (filter p (replicate n x)) ≡ n
count-replicate-all p x e zero = refl
count-replicate-all p x e (suc n) = ap (λ b. length (cond b (x ∷ filter p (replicate n x)) (filter p (replicate n x)))) e ∙ ap (λ n. suc n) (count-replicate-all p x e n)

pub count-replicate-none : {A : Type 0} (p : A → Bool) (x : A) → p x ≡ false → (n : ℕ) → length (filter p (replicate n x)) ≡ 0
count-replicate-none p x e zero = refl
count-replicate-none p x e (suc n) = ap (λ b. length (cond b (x ∷ filter p (replicate n x)) (filter p (replicate n x)))) e ∙ count-replicate-none p x e n
