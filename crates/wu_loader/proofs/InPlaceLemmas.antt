-- Loops that write the elements of a list in place: those before an index are written, and the others are as at first.
use Rattle.std.proofs.Common.{List, [], ap, arith, drop, get_or, length, map, set, sym, take, ℕ, ◌++◌, ◌+◌, ◌<◌, ◌∙◌, ◌∷◌, ◌≡◌}
use Rattle.std.proofs.lemmas.List.{drop-set-lt, drop_more, get_or_default, length-append, length-drop, length-map, length-take, take_more}
use Rattle.std.proofs.lemmas.List.Edits.{map_over_more}

module _ {X : Type 0} (old now : List X) (n : ℕ) (d : X) (low : n < length now) (rest : drop n now ≡ drop n old) where
  within : n < length old
  within =
      let a : length (drop n now) ≡ length (drop n old) = ap length rest in
      let b = length-drop n now in
      let c = length-drop n old in
      omega (arith, low, a, b, c)

  both : get_or now n d ∷ drop (n + 1) now ≡ get_or old n d ∷ drop (n + 1) old
  both = sym (drop_more now n d low) ∙ rest ∙ drop_more old n d within

  same : get_or now n d ≡ get_or old n d
  same = let e = both in cc

  later : drop (n + 1) now ≡ drop (n + 1) old
  later = ap (drop 1) both

  -- the element at the index is the next one of the list as it was at first
  pub next_is : drop n old ≡ get_or now n d ∷ drop (n + 1) old
  next_is = sym rest ∙ drop_more now n d low ∙ ap (λ xs. get_or now n d ∷ xs) later

  pub one_more : take (n + 1) old ≡ take n old ++ get_or now n d ∷ []
  one_more = take_more old n d within ∙ ap (λ x. take n old ++ x ∷ []) (sym same)

  -- once it is written, the others are still as at first
  pub rest_stays : (y : X) → drop (n + 1) (set now n y) ≡ drop (n + 1) old
  rest_stays y = drop-set-lt (n + 1) now n y (omega arith) ∙ later

-- one more element is changed
pub mapped_more : {X : Type 0} (f : X → X) (old now : List X) (n : ℕ) (d y : X) → n < length old → now ≡ map f (take n old) ++ drop n old → y ≡ f (get_or now n d) → set now n y ≡ map f (take (n + 1) old) ++ drop (n + 1) old
mapped_more f old now n d y lt e made =
    let long : n < length now = rw e (simp (length-append, length-map, length-drop) (omega (arith, length-take n old))) in
    rw made (map_over_more f old now n (get_or now n d) lt e (get_or_default now n d (get_or now n d) long))
