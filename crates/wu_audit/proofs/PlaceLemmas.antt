-- What holds of the element that was read at a place, and of the first for which a test is false.
use Rattle.std.proofs.Common.{◌≡◌, ◌∙◌, ◌↔◌, sym, ℕ, ◌<◌, Bool, true, false, Bor, List, length, get_or, subst, arith, refl, Option, Some, None, [], ◌∷◌}
use Rattle.std.specs.Fn.{FnReturns}
use Rattle.std.proofs.lemmas.Bool.{false≢true}
use Rattle.std.proofs.lemmas.List.{get_or_default}
use Rattle.wu_audit.specs.Against.{FirstAgainst, FirstFalse}
use denote.Param.Members.{Shared}

-- it holds at the place, whatever stands for what is behind the end
pub holds_here : {X : Type 0} (P : X → Type 0) (xs : List X) (i : ℕ) (x : X)
    → i < length xs → x ≡ get_or xs i x → P x → (d : X) → P (get_or xs i d)
holds_here P xs i x within is holds d = subst P (is ∙ get_or_default xs i x d within) holds

-- what does not hold of it does not at the place
pub against_here : {X : Type 0} (P : X → Type 0) (xs : List X) (i : ℕ) (x : X)
    → i < length xs → x ≡ get_or xs i x → ¬ P x → (d : X) → ¬ P (get_or xs i d)
against_here P xs i x within is against = holds_here (λ y. ¬ P y) xs i x within is against

-- where a test tells whether it holds, it does not at the first place at which the test is false
pub against_from_test : {F X : Type 0} {test : Shared F (Bor X × Unit {0}) Bool} {f : F} (P : X → Type 0) (xs : List X) (r : Option ℕ)
    → FirstFalse test f xs r → ((x : Bor X) (b : Bool) → FnReturns test f (x, tt) b → (b ≡ true) ↔ P x.now) → FirstAgainst P xs r
against_from_test P xs None each tells = λ k d lt. let told = each k d (omega arith) lt in subst P told.shows ((tells told.shown true told.says).0 refl)
against_from_test P xs (Some k) found tells = record {
  within = found.0;
  before = λ j d lt. let told = found.2 j d (omega arith) lt in subst P told.shows ((tells told.shown true told.says).0 refl);
  against = λ d holds. let told = found.1 d in false≢true ((tells told.shown false told.says).1 (subst P (sym told.shows) holds));
}

-- a list with a place has an element
pub element_of : {K : Type 0} (keys : List K) (j : ℕ) → j < length keys → K
element_of [] j lt = absurd (omega (arith, lt))
element_of (e ∷ keys) j lt = e
