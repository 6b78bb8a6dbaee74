-- What is found in a schema.
use Rattle.std.proofs.Common.{◌≡◌, ◌∙◌, ◌^◌, ◌==◌, ℕ, Bool, true, false, nat_le, List, [], ◌∷◌, Some, sym, ap, subst, eq-eqb, eqb-true, inl, inr, find, refl, slice_get}
use Rattle.std.specs.List.{All, Any}
use Rattle.std.proofs.lemmas.List.Elements.{All-contains, All-from_recursion}
use Rattle.std.proofs.lemmas.Bool.{cases_Bool}
use Rattle.sqlite.specs.Schema.{Schema}
use Rattle.sqlite.specs.Table.{Table}
use Rattle.sqlite_rules.proofs.ListLemmas.{all_from, any_has, contains_had, has_got}
use Rattle.sqlite_rules.specs.Lists.{Has}
use Rattle.sqlite_schema.specs.Names.{table_named}
use Rattle.wu_schema.specs.Indexes.{IsIndexed, NamedIndex, index_at}
use Rattle.wu_schema.specs.Tables.{HasNamed, OwnsTree}

-- of each element, by its membership
pub all_listed : {X : Type 0} (P : X → Type 0) (xs : List X) → All P xs → (x : X) → Has xs x → P x
all_listed P xs all x has = All-contains P xs x all (contains_had xs x has)

pub listed_all : {X : Type 0} (P : X → Type 0) (xs : List X) → ((x : X) → Has xs x → P x) → All P xs
listed_all P xs each = All-from_recursion P xs (all_from P xs each)

listed_any : {X : Type 0} (P : X → Type 0) (xs : List X) (x : X) → Has xs x → P x → Any P xs
listed_any P xs x has is = let at = contains_had xs x has in (at.0, x, at.1, at.2, is)

-- the one element that passes is found
found_only : {X : Type 0} (p : X → Bool) (xs : List X) (x : X) → Has xs x → p x ≡ true → ((y : X) → Has xs y → p y ≡ true → y ≡ x) → find p xs ≡ Some x
found_only p [] x has is only = absurd has
found_only p (y ∷ xs) x has is only = elim (cases_Bool (p y)) [
  | inl here ↦ rw here (ap Some (only y (inl refl) here))
  | inr other ↦ rw other (found_only p xs x (elim has [ inl same ↦ absurd (let e = sym (ap p same) ∙ is in let f = sym e ∙ other in cc) | inr more ↦ more ]) is (λ z more passes. only z (inr more) passes))
]

-- a table by its name, alone in its tree
pub named_from : (schema : Schema) (name : List ℕ) (at : ℕ) (table : Table) → table_named schema name ≡ Some at → slice_get schema.tables at ≡ Some table → nat_le (2 ^ 31) table.tree ≡ false → OwnsTree schema table → HasNamed schema name table
named_from schema name at table named there low owns =
    (at, record { named = named; there = there; low = low; stands = found_only (λ t. t.tree == table.tree) schema.tables table (has_got schema.tables at table there) (eq-eqb table.tree table.tree refl) (λ y has same. owns y has (eqb-true y.tree table.tree same)) }, owns)

-- a name finds one table
pub named_once : (schema : Schema) (name : List ℕ) (s t : Table) → HasNamed schema name s → HasNamed schema name t → s ≡ t
named_once schema name s t a b = let at : a.0 ≡ b.0 = some_same (sym a.1.named ∙ b.1.named) in some_same (sym a.1.there ∙ ap (slice_get schema.tables) at ∙ b.1.there)
  where
    some_same : {X : Type 0} {x y : X} → Some x ≡ Some y → x ≡ y
    some_same e = cc

-- two trees in which the name finds the table are one
pub tree_once : (schema : Schema) (name : List ℕ) (made : ℕ → Table) → ((tree : ℕ) → (made tree).tree ≡ tree) → (s t : ℕ) → HasNamed schema name (made s) → HasNamed schema name (made t) → s ≡ t
tree_once schema name made is s t a b = sym (is s) ∙ ap (λ (u : Table). u.tree) (named_once schema name (made s) (made t) a b) ∙ is t

-- of equal names and tables
pub named_same : (schema : Schema) {name other : List ℕ} {table like : Table} → name ≡ other → table ≡ like → HasNamed schema name table → HasNamed schema other like
named_same schema {name} {other} {table} {like} e f has = subst (HasNamed schema other) f (subst (λ n. HasNamed schema n table) e has)

-- an index of this name and these columns, wherever it is kept
pub indexed_from : (schema : Schema) (table : ℕ) (named : NamedIndex) → Any (λ i. i ≡ index_at named table i.tree) schema.indexes → IsIndexed schema table named
indexed_from schema table named any =
    let found = any_has (λ i. i ≡ index_at named table i.tree) schema.indexes any in
    (found.0.tree, subst (Has schema.indexes) found.2 found.1)

pub any_indexed : (schema : Schema) (table : ℕ) (named : NamedIndex) → IsIndexed schema table named → Any (λ i. i ≡ index_at named table i.tree) schema.indexes
any_indexed schema table named has = listed_any (λ i. i ≡ index_at named table i.tree) schema.indexes (index_at named table has.0) has.1 refl
