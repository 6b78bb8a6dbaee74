-- A name that is free once more was made was free before it.
use Rattle.wu_schema.proofs.Words.{Bool, Database, Has, IsFree, List, None, Option, Schema, Some, [], all_from, all_has, cond, false, inl, inr, position_from, refl, same_name, subst, sym, true, ℕ, ◌++◌, ◌+◌, ◌∷◌, ◌≡◌}
use Rattle.wu_schema.specs.Made.{AreFree, KeepsOthers}

never_placed : (b : Bool) (at : ℕ) (later : Option ℕ) → cond b (Some at) later ≡ None → (b ≡ false) × (later ≡ None)
never_placed true at later none = absurd cc
never_placed false at later none = (refl, none)

-- where none has the name, each has another
all_other : {X : Type 0} (p : X → Bool) (from : ℕ) (xs : List X) → position_from p from xs ≡ None → (x : X) → Has xs x → p x ≡ false
all_other p from [] none x has = absurd has
all_other p from (y ∷ xs) none x (inl same) = subst (λ z. p z ≡ false) (sym same) (never_placed (p y) from _ none).0
all_other p from (y ∷ xs) none x (inr has) = all_other p (from + 1) xs (never_placed (p y) from _ none).1 x has

none_placed : {X : Type 0} (p : X → Bool) (from : ℕ) (xs : List X) → ((x : X) → Has xs x → p x ≡ false) → position_from p from xs ≡ None
none_placed p from [] other = refl
none_placed p from (y ∷ xs) other = rw (other y (inl refl)) (none_placed p (from + 1) xs (λ x has. other x (inr has)))

-- a name that is free behind them was free before
pub free_before : (old new : Database) → KeepsOthers old new → (name : List ℕ) → IsFree new.schema name → IsFree old.schema name
free_before old new keeps name free = record {
  table = none_placed (λ t. same_name t.name name) 0 old.schema.tables (λ t has. all_other (λ t. same_name t.name name) 0 new.schema.tables free.table t (keeps.tables t has).0);
  index = none_placed (λ i. same_name i.name name) 0 old.schema.indexes (λ i has. all_other (λ i. same_name i.name name) 0 new.schema.indexes free.index i (keeps.indexes i has));
  view = subst (λ vs. position_from (λ v. same_name v.name name) 0 vs ≡ None) keeps.views free.view;
}

pub all_before : (old new : Database) → KeepsOthers old new → (names : List (List ℕ)) → AreFree new.schema names → AreFree old.schema names
all_before old new keeps names free = all_from (IsFree old.schema) names (λ name has. free_before old new keeps name (all_has (IsFree new.schema) names name free has))

pub all_both : (schema : Schema) (some more : List (List ℕ)) → AreFree schema some → AreFree schema more → AreFree schema (some ++ more)
all_both schema [] more none free = free
all_both schema (name ∷ some) more first free = (first.0, all_both schema some more first.1 free)
