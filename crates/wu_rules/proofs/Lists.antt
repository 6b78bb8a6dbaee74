-- Counts and tests over a list whose elements were changed.
use Rattle.std.proofs.Common.{◌≡◌, ℕ, suc, ◌+◌, ◌<◌, Bool, true, false, cond, ◌&&◌, List, [], ◌∷◌, ◌++◌, map, length, filter, take, drop, get_or, set, refl, sym, ap, ◌∙◌, add-zero, zero-add, Option, Some, None, arith}
use Rattle.std.proofs.lemmas.List.{length-map, length-take-le, drop_more, get_or_at, set_at, take_more, map-append, append_assoc}
use Rattle.std.specs.Option.{option_to_list}
use Rattle.std.proofs.lemmas.List.Elements.{filter_map-append}
use Rattle.std.proofs.lemmas.List.FromFn.{length-enumerate_from, get_or-enumerate_from}
use Rattle.std.proofs.lemmas.List.Folds.{list_any-append, list_any_at}
use Rattle.std.specs.List.{list_any, filter_map, cons_option, enumerate_from}

pub count_step : {A B : Type 0} (b c : Bool) (x : A) (y : B) (xs : List A) (ys : List B) → b ≡ c → length xs ≡ length ys → length (cond b (x ∷ xs) xs) ≡ length (cond c (y ∷ ys) ys)
count_step true true x y xs ys e l = ap (λ n. suc n) l
count_step true false x y xs ys e l = cc
count_step false true x y xs ys e l = cc
count_step false false x y xs ys e l = l

-- as many pass after the change as before
pub count-map : {A B : Type 0} (p : B → Bool) (q : A → Bool) (f : A → B) → ((x : A) → p (f x) ≡ q x) → (xs : List A) → length (filter p (map f xs)) ≡ length (filter q xs)
count-map p q f same [] = refl
count-map p q f same (x ∷ xs) = count_step (p (f x)) (q x) (f x) x (filter p (map f xs)) (filter q xs) (same x) (count-map p q f same xs)

pub any-map : {A B : Type 0} (p : B → Bool) (q : A → Bool) (f : A → B) → ((x : A) → p (f x) ≡ q x) → (xs : List A) → list_any p (map f xs) ≡ list_any q xs
any-map p q f same [] = refl
any-map p q f same (x ∷ xs) = let e = same x in let r = any-map p q f same xs in cc

-- each element with its place
pub enumerate_from-append : {A : Type 0} (s : ℕ) (xs ys : List A) → enumerate_from s (xs ++ ys) ≡ enumerate_from s xs ++ enumerate_from (s + length xs) ys
enumerate_from-append s [] ys = rw (add-zero s) refl
enumerate_from-append s (x ∷ xs) ys = ap (λ zs. (s, x) ∷ zs) (enumerate_from-append (s + 1) xs ys ∙ (let e : s + 1 + length xs ≡ s + suc (length xs) = omega arith in ap (λ n. enumerate_from (s + 1) xs ++ enumerate_from n ys) e))

abbrev pub map_placed : {A B : Type 0} → (ℕ → A → B) → List A → List B
map_placed f xs = map (λ p. f p.0 p.1) (enumerate_from 0 xs)

pub length-map_placed : {A B : Type 0} (f : ℕ → A → B) (xs : List A) → length (map_placed f xs) ≡ length xs
length-map_placed f xs = length-map (enumerate_from 0 xs) (λ p. f p.0 p.1) ∙ length-enumerate_from 0 xs

places_more : {A : Type 0} (xs : List A) (n : ℕ) (d : A) → n < length xs → enumerate_from 0 (take (n + 1) xs) ≡ enumerate_from 0 (take n xs) ++ (n, get_or xs n d) ∷ []
places_more xs n d lt =
    let long : length (take n xs) ≡ n = length-take-le n xs (omega arith) in
    ap (λ zs. enumerate_from 0 zs) (take_more xs n d lt) ∙ (enumerate_from-append 0 (take n xs) (get_or xs n d ∷ []) ∙ ap (λ k. enumerate_from 0 (take n xs) ++ (k, get_or xs n d) ∷ []) (zero-add (length (take n xs)) ∙ long))

-- one more element of a list is changed, each by its place
pub placed_more : {A : Type 0} (f : ℕ → A → A) (old now : List A) (n : ℕ) (d y : A) → n < length old → now ≡ map_placed f (take n old) ++ drop n old → y ≡ f n (get_or now n d) → set now n y ≡ map_placed f (take (n + 1) old) ++ drop (n + 1) old
placed_more f old now n d y lt e made =
    let front = map_placed f (take n old) in
    let long : length (take n old) ≡ n = length-take-le n old (omega arith) in
    let front_long : length front ≡ n = length-map_placed f (take n old) ∙ long in
    let split : now ≡ front ++ get_or old n d ∷ drop (n + 1) old = e ∙ ap (λ zs. front ++ zs) (drop_more old n d lt) in
    let here : get_or now n d ≡ get_or old n d = ap (λ zs. get_or zs n d) split ∙ get_or_at front (get_or old n d) (drop (n + 1) old) d n front_long in
    let left : set now n y ≡ front ++ y ∷ drop (n + 1) old = ap (λ zs. set zs n y) split ∙ set_at front (get_or old n d) (drop (n + 1) old) y n front_long in
    let places = places_more old n d lt in
    let more : map_placed f (take (n + 1) old) ≡ front ++ f n (get_or old n d) ∷ [] =
    ap (λ zs. map (λ p. f p.0 p.1) zs) places ∙ map-append (λ p. f p.0 p.1) (enumerate_from 0 (take n old)) ((n, get_or old n d) ∷ []) in
    let right : map_placed f (take (n + 1) old) ++ drop (n + 1) old ≡ front ++ f n (get_or old n d) ∷ drop (n + 1) old =
    ap (λ zs. zs ++ drop (n + 1) old) more ∙ append_assoc front (f n (get_or old n d) ∷ []) (drop (n + 1) old) in
    left ∙ (ap (λ z. front ++ z ∷ drop (n + 1) old) (made ∙ ap (λ z. f n z) here) ∙ sym right)

-- a change that changes no element changes no list
pub map-same : {A : Type 0} (f : A → A) → ((x : A) → f x ≡ x) → (xs : List A) → map f xs ≡ xs
map-same f same [] = refl
map-same f same (x ∷ xs) = let e = same x in let r = map-same f same xs in cc

-- some place so far
pub any_placed-more : {A : Type 0} (p : ℕ → A → Bool) (xs : List A) (n : ℕ) (d : A) → n < length xs → list_any (λ q. p q.0 q.1) (enumerate_from 0 (take n xs)) ≡ false → p n (get_or xs n d) ≡ false → list_any (λ q. p q.0 q.1) (enumerate_from 0 (take (n + 1) xs)) ≡ false
any_placed-more p xs n d lt before here = rw (places_more xs n d lt, list_any-append (λ q. p q.0 q.1) (enumerate_from 0 (take n xs)) ((n, get_or xs n d) ∷ []), before, here) refl

pub any_placed-found : {A : Type 0} (p : ℕ → A → Bool) (xs : List A) (n : ℕ) (d : A) → n < length xs → p n (get_or xs n d) ≡ true → list_any (λ q. p q.0 q.1) (enumerate_from 0 xs) ≡ true
any_placed-found p xs n d lt here =
    let in_places : n < length (enumerate_from 0 xs) = rw (length-enumerate_from 0 xs) lt in
    let at : get_or (enumerate_from 0 xs) n (0, d) ≡ (n, get_or xs n d) = get_or-enumerate_from 0 xs n (0, d) lt ∙ ap (λ k. (k, get_or xs n d)) (zero-add n) in
    list_any_at (λ q. p q.0 q.1) (enumerate_from 0 xs) n (0, d) in_places (ap (λ q. p q.0 q.1) at ∙ here)

-- one more element, and what is kept of it
pub kept_more : {A B : Type 0} (h : ℕ → A → Option B) (xs : List A) (n : ℕ) (d : A) (made : List B) (o : Option B) → n < length xs → made ≡ filter_map (λ p. h p.0 p.1) (enumerate_from 0 (take n xs)) → o ≡ h n (get_or xs n d) → made ++ option_to_list o ≡ filter_map (λ p. h p.0 p.1) (enumerate_from 0 (take (n + 1) xs))
kept_more h xs n d made o lt before here =
    rw (places_more xs n d lt, filter_map-append (λ p. h p.0 p.1) (enumerate_from 0 (take n xs)) ((n, get_or xs n d) ∷ []), before, here) (ap (λ zs. filter_map (λ p. h p.0 p.1) (enumerate_from 0 (take n xs)) ++ zs) (alone (h n (get_or xs n d))))
  where
    alone : {B : Type 0} (o : Option B) → option_to_list o ≡ cons_option o []
    alone None = refl
    alone (Some x) = refl

-- ---- two tests of one list

-- what passes one test and then another passes both
pub filter_both : {X : Type 0} (one two : X → Bool) (xs : List X) → filter two (filter one xs) ≡ filter (λ x. one x && two x) xs
filter_both one two [] = refl
filter_both one two (x ∷ xs) = by_case (one x) (filter_both one two xs)
  where
    by_case : (a : Bool) → filter two (filter one xs) ≡ filter (λ y. one y && two y) xs → filter two (cond a (x ∷ filter one xs) (filter one xs)) ≡ cond (a && two x) (x ∷ filter (λ y. one y && two y) xs) (filter (λ y. one y && two y) xs)
    by_case true same = ap (λ ys. cond (two x) (x ∷ ys) ys) same
    by_case false same = same
