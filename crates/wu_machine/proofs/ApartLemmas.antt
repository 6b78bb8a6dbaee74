-- Workunits no two of which have one name.
use Rattle.std.proofs.Common.{◌≡◌, ◌≢◌, ℕ, suc, List, [], ◌∷◌, ◌++◌, map, sym, subst, ◌∙◌, arith}
use Rattle.std.proofs.lemmas.List.Elements.{All-from_recursion, recursion_from_All}
use Rattle.std.proofs.lemmas.List.Kept.{AllPairs-cons}
use Rattle.std.specs.List.{AllByRecursion, AllPairs}
use Rattle.std.specs.Prelude.{⊤}
use Rattle.wu_core.specs.declared.workunit.Workunit.{Workunit}

abbrev pub names_of : List Workunit → List (List ℕ)
names_of ws = map (λ (w : Workunit). w.name) ws

-- each has another name than those after it
abbrev pub Apart : List Workunit → Type 0
Apart [] = ⊤
Apart (w ∷ ws) = AllByRecursion (λ (v : Workunit). w.name ≢ v.name) ws × Apart ws

pub apart_pairs : (ws : List Workunit) → Apart ws → AllPairs (λ (one other : Workunit). one.name ≢ other.name) ws
apart_pairs [] apart = λ i j d order low. absurd (omega (arith, low))
apart_pairs (w ∷ ws) apart = AllPairs-cons (λ (one other : Workunit). one.name ≢ other.name) w ws (All-from_recursion (λ (v : Workunit). w.name ≢ v.name) ws apart.0) (apart_pairs ws apart.1)

pub pairs_apart : (ws : List Workunit) → AllPairs (λ (one other : Workunit). one.name ≢ other.name) ws → Apart ws
pairs_apart [] pairs = tt
pairs_apart (w ∷ ws) pairs = (
  recursion_from_All (λ (v : Workunit). w.name ≢ v.name) ws (λ i d low. pairs 0 (suc i) d (omega arith) (omega (arith, low))),
  pairs_apart ws (λ i j d order low. pairs (suc i) (suc j) d (omega (arith, order)) (omega (arith, low))),
)

-- with one more, whose name none has
other_more : (name : List ℕ) (ws : List Workunit) (w : Workunit) → AllByRecursion (λ (v : Workunit). name ≢ v.name) ws → name ≢ w.name → AllByRecursion (λ (v : Workunit). name ≢ v.name) (ws ++ w ∷ [])
other_more name [] w others new = (new, tt)
other_more name (v ∷ ws) w others new = (others.0, other_more name ws w others.1 new)

pub apart_more : (ws : List Workunit) (w : Workunit) → Apart ws → AllByRecursion (λ (v : Workunit). v.name ≢ w.name) ws → Apart (ws ++ w ∷ [])
apart_more [] w apart new = (tt, tt)
apart_more (v ∷ ws) w apart new = (other_more v.name ws w apart.0 new.0, apart_more ws w apart.1 new.1)

-- each changed, and its name kept
module _ (change : Workunit → Workunit) (kept : (w : Workunit) → (change w).name ≡ w.name) where
  others_changed : (name : List ℕ) (ws : List Workunit) → AllByRecursion (λ (v : Workunit). name ≢ v.name) ws → AllByRecursion (λ (v : Workunit). name ≢ v.name) (map change ws)
  others_changed name [] others = tt
  others_changed name (v ∷ ws) others = ((λ same. others.0 (same ∙ kept v)), others_changed name ws others.1)

  pub apart_changed : (ws : List Workunit) → Apart ws → Apart (map change ws)
  apart_changed [] apart = tt
  apart_changed (w ∷ ws) apart =
      (subst (λ name. AllByRecursion (λ (v : Workunit). name ≢ v.name) (map change ws)) (sym (kept w)) (others_changed w.name ws apart.0), apart_changed ws apart.1)
