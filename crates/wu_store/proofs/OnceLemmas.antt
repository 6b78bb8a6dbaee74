-- Unique keys: no two rows of a table agree in one.
use Rattle.wu_schema.proofs.Words.{AllByRecursion, Bool, Contains-permutation, Database, Equal, Greater, Has, Import, Int, IsAscending, IsDatabase, IsGuarded, IsPermutation, Less, List, Ordering, Row, Some, Table, Text, Value, [], agree, all_from, all_has, and_from, ap, arith, automatic, binary, cases_Bool, column, contains_had, drop, eq-eqb, false, false_from_ne_true, filter, filter_none, guards, has_contained, import_cells, import_kind_code, inl, inr, is_eq, is_true, length, not, number, passes, refl, rowid, slice_get, some_from, test_has, true, value_cmp, ℕ, ℤ, ◌&&◌, ◌∷◌, ◌≡◌, ◌≤◌}
use Rattle.std.specs.Ordering.{is_ne}
use Rattle.sqlite_sql.specs.Ops.{from_truth}
use Rattle.sqlite_schema.specs.declared.schema.Constraint.TheVariants.{Unique}
use Rattle.sqlite_schema.specs.Rules.{differ, clashes}

pub has_permuted : {X : Type 0} (xs ys : List X) (x : X) → IsPermutation xs ys → Has xs x → Has ys x
has_permuted xs ys x same has = has_contained ys x (Contains-permutation xs ys x same (contains_had xs x has))

-- the cells behind a rowid
pub kind_in : (r : Row) (import : Import) → drop 1 r ≡ import_cells import → (column r 1 ≡ number (import_kind_code import.kind)) × (column r 2 ≡ Text import.name)
kind_in [] import is = absurd (cc)
kind_in (v ∷ r) import is = (ap (λ (cells : Row). column (v ∷ cells) 1) is, ap (λ (cells : Row). column (v ∷ cells) 2) is)

differ_numbers : (a b : Value) → is_eq (value_cmp a b) ≡ false → (m n : ℤ) → a ≡ Int m → b ≡ Int n → differ a b ≡ true
unfolding binary
differ_numbers a b apart m n is_a is_b = rw (is_a, is_b) (go (value_cmp (Int m) (Int n)) (rw (is_a, is_b) at apart))
  where
    go : (o : Ordering) → is_eq o ≡ false → is_true (from_truth (Some (is_ne o))) ≡ true
    go Less h = refl
    go Equal h = absurd (cc)
    go Greater h = refl

-- a row that agrees with another in a unique key, behind another rowid, is none
module _ (db : Database) (t : Table) (k : ℕ) (cs : List ℕ) (is : slice_get t.uniques k ≡ Some cs) (sound : IsDatabase db) (stands : Has db.schema.tables t) where
  abbrev rows : List Row
  rows = db.trees t.tree

  pub key_once : (r other : Row) → Has rows r → Has rows other → is_eq (value_cmp (rowid other) (rowid r)) ≡ false → (m n : ℤ) → rowid other ≡ Int m → rowid r ≡ Int n → ((at : ℕ) → agree (automatic t k cs at).order cs other cs r ≡ true) → ⊥
  key_once r other has_r has_other apart m n is_o is_r agrees =
      let guard = all_has (IsGuarded db.schema.indexes) db.schema.tables t sound.lists.guarded stands k cs is in
      let i = automatic t k cs guard.0 in
      let unique = all_has (λ row. passes Unique db.schema db.trees t row ≡ true) rows r (all_has (λ u. AllByRecursion (λ row. passes Unique db.schema db.trees u row ≡ true) (db.trees u.tree)) db.schema.tables t (sound.obeys.rules Unique) stands) has_r in
      let one = test_has (λ i. not (guards i t && clashes i.order i.columns rows r)) db.schema.indexes i unique guard.1 in
      let clash : clashes i.order i.columns rows r ≡ true = some_from (λ o. agree i.order i.columns o i.columns r && differ (rowid o) (rowid r)) rows other has_other (and_from _ _ (agrees guard.0) (differ_numbers (rowid other) (rowid r) apart m n is_o is_r)) in
      let both : (guards i t && clashes i.order i.columns rows r) ≡ true = and_from _ _ (eq-eqb t.tree t.tree refl) clash in
      absurd (let off = rw both at one in cc)

-- of things of which each two differ in what is asked for, at most one passes
pub one_passes : {X : Type 0} (q : X → Bool) (R : X → X → Type 0) (xs : List X) → ((a b : X) → Has xs a → Has xs b → R a b → q a ≡ true → q b ≡ true → ⊥) → IsAscending R xs → length (filter q xs) ≤ 1
one_passes q R [] apart up = omega arith
one_passes q R (x ∷ xs) apart up = elim (cases_Bool (q x)) [
  | inl on ↦
      let none : filter q xs ≡ [] = filter_none q xs (all_from (λ y. q y ≡ false) xs (λ y has. false_from_ne_true _ (λ h. apart x y (inl refl) (inr has) (all_has (R x) xs y up.0 has) on h))) in
      rw (on, none) (omega arith)
  | inr off ↦ rw off (one_passes q R xs (λ a b has_a has_b. apart a b (inr has_a) (inr has_b)) up.1)
]
