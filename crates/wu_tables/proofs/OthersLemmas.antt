-- Names of a project, and lists of what has them.
use Rattle.std.proofs.Common.{◌≡◌, ◌++◌, ℕ, List, [], ◌∷◌, map, inl, inr, ap, refl, subst, sym}
use Rattle.std.specs.Prelude.{◌⊎◌}
use Rattle.std.specs.Borrow.{Bor}
use Rattle.std.specs.List.{Any}
use Rattle.sqlite_rules.proofs.ListLemmas.{any_has, contains_had}
use Rattle.sqlite_rules.specs.Lists.{Has}

-- what a list has is had by its image
had_mapped : {X Y : Type 0} (f : X → Y) (xs : List X) (x : X) → Has xs x → Has (map f xs) (f x)
had_mapped f [] x has = absurd has
had_mapped f (y ∷ xs) x (inl same) = inl (ap f same)
had_mapped f (y ∷ xs) x (inr later) = inr (had_mapped f xs x later)

mapped_had : {X Y : Type 0} (f : X → Y) (xs : List X) (y : Y) → Has (map f xs) y → (x : X) × Has xs x × (f x ≡ y)
mapped_had f [] y has = absurd has
mapped_had f (x ∷ xs) y (inl same) = (x, inl refl, sym same)
mapped_had f (x ∷ xs) y (inr later) = let it = mapped_had f xs y later in (it.0, inr it.1, it.2)

-- one of the names is this one
pub named_any : (names : List (Bor (List ℕ))) (name : List ℕ) → Any (λ given. given.now ≡ name) names → Has (map (λ given. given.now) names) name
named_any names name any =
    let it = any_has (λ (given : Bor (List ℕ)). given.now ≡ name) names any in
    subst (Has (map (λ (given : Bor (List ℕ)). given.now) names)) it.2 (had_mapped (λ (given : Bor (List ℕ)). given.now) names it.0 it.1)

pub any_named : (names : List (Bor (List ℕ))) (name : List ℕ) → Has (map (λ given. given.now) names) name → Any (λ given. given.now ≡ name) names
any_named names name has =
    let it = mapped_had (λ (given : Bor (List ℕ)). given.now) names name has in
    let at = contains_had names it.0 it.1 in
    (at.0, it.0, at.1, at.2, it.2)

-- of two lists, one after another
had_both : {X : Type 0} (front back : List X) (x : X) → Has (front ++ back) x → Has front x ⊎ Has back x
had_both [] back x has = inr has
had_both (y ∷ front) back x (inl same) = inl (inl same)
had_both (y ∷ front) back x (inr later) = elim (had_both front back x later) [ inl one ↦ inl (inr one) | inr two ↦ inr two ]

both_had : {X : Type 0} (front back : List X) (x : X) → Has front x ⊎ Has back x → Has (front ++ back) x
both_had [] back x (inl one) = absurd one
both_had [] back x (inr two) = two
both_had (y ∷ front) back x (inl (inl same)) = inl same
both_had (y ∷ front) back x (inl (inr one)) = inr (both_had front back x (inl one))
both_had (y ∷ front) back x (inr two) = inr (both_had front back x (inr two))

-- of three lists, of which the second and the third change places
module _ {X : Type 0} (one two three : List X) (x : X) where
  pub had_moved : Has one x ⊎ Has (three ++ two) x → Has ((one ++ two) ++ three) x
  had_moved (inl h) = both_had (one ++ two) three x (inl (both_had one two x (inl h)))
  had_moved (inr h) = elim (had_both three two x h) [
    | inl t ↦ both_had (one ++ two) three x (inr t)
    | inr t ↦ both_had (one ++ two) three x (inl (both_had one two x (inr t)))
  ]

  pub moved_had : Has ((one ++ two) ++ three) x → Has one x ⊎ Has (three ++ two) x
  moved_had h = elim (had_both (one ++ two) three x h) [
    | inr t ↦ inr (both_had three two x (inl t))
    | inl both ↦ elim (had_both one two x both) [ inl o ↦ inl o | inr t ↦ inr (both_had three two x (inr t)) ]
  ]
