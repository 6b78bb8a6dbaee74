-- What an action that deletes takes out of the table that it is on.
use Rattle.wu_schema.proofs.Words.{Applies, AreChildren, Bool, Delete, Has, Int, IsShaped, IsShaped-filter, IsTrue, Keys, List, Row, Schema, Trees, Work, [], action_edit, all_has, ap, cond, false, filter, has_rowid, is_eq, is_int, list_any, map, not, refl, row_at_is, rowid, some_from, some_has, subst, sym, tied_itself, true, value_cmp, value_cmp_total, without_all, without_rowid, ℤ, ◌||◌, ◌∙◌, ◌∷◌, ◌≡◌}
use Rattle.std.proofs.Math.Bool.{or_self}
use Rattle.sqlite.specs.Tree.{IsTable}
use Rattle.sqlite_rules.specs.Edit.{put_all, numbered}
use Rattle.sqlite_rules.specs.Cast.{cast_row}
use Rattle.sqlite_rules.specs.declared.error.Rowids.TheVariants.{Given}
use Rattle.sqlite_trees.specs.declared.store.Shape.TheVariants as shape
use Rattle.sqlite_rules.specs.Action.{is_child_of, sources}
use Rattle.wu_schema.proofs.RowLemmas.{filter_same, int_value, no_test}
use Rattle.wu_schema.proofs.QuietLemmas.{Strikes}

filter_twice : {X : Type 0} (p q : X → Bool) (xs : List X) → filter (λ x. not (q x)) (filter (λ x. not (p x)) xs) ≡ filter (λ x. not (p x || q x)) xs
filter_twice p q [] = refl
filter_twice p q (x ∷ xs) = elim (p x) as (λ b. filter (λ y. not (q y)) (cond (not b) (x ∷ filter (λ y. not (p y)) xs) (filter (λ y. not (p y)) xs)) ≡ cond (not (b || q x)) (x ∷ filter (λ y. not (p y || q y)) xs) (filter (λ y. not (p y || q y)) xs)) [
  | true ↦ filter_twice p q xs
  | false ↦ ap (λ ys. cond (not (q x)) (x ∷ ys) ys) (filter_twice p q xs)
]

pub without_is : (ids : List ℤ) (rows : List Row) → without_all rows ids ≡ filter (λ r. not (list_any (λ id. has_rowid id r) ids)) rows
without_is [] rows = sym (no_test rows)
without_is (id ∷ ids) rows = without_is ids (without_rowid id rows) ∙ filter_twice (has_rowid id) (λ r. list_any (λ j. has_rowid j r) ids) rows

pub both_ways : (b c : Bool) → (b ≡ true → c ≡ true) → (c ≡ true → b ≡ true) → b ≡ c
both_ways true c to from = sym (to refl)
both_ways false true to from = from refl
both_ways false false to from = refl

pub has_own : (r : Row) (id : ℤ) → rowid r ≡ Int id → has_rowid id r ≡ true
has_own r id is = ap (λ v. is_eq (value_cmp v (Int id))) is ∙ ap is_eq (tied_itself value_cmp_total (Int id))

-- the rows without the children of the work
abbrev pub bereft : Work → List Row → List Row
bereft w = filter (λ r. not (list_any (is_child_of w r) w.moves))

-- the children are those with these rowids
pub cut_is : (db : Trees) (w : Work) (ids : List ℤ) → IsTable (db w.child.tree) → AreChildren db w ids → ((r : Row) → Has (db w.child.tree) r → (id : ℤ) × (rowid r ≡ Int id)) → without_all (db w.child.tree) ids ≡ bereft w (db w.child.tree)
cut_is db w ids rising are keyed =
    let rows = db w.child.tree in
    let to : (r : Row) → Has rows r → list_any (λ id. has_rowid id r) ids ≡ true → list_any (is_child_of w r) w.moves ≡ true = λ r has found.
    let it = some_has (λ id. has_rowid id r) ids found in
    let child = are.sound it.0 it.1 in
    let one : r ≡ child.0 = sym (row_at_is rows it.0 r rising has it.2) ∙ row_at_is rows it.0 child.0 rising child.1 (has_own child.0 it.0 child.3) in
    subst (λ x. list_any (is_child_of w x) w.moves ≡ true) (sym one) child.2 in
    let from : (r : Row) → Has rows r → list_any (is_child_of w r) w.moves ≡ true → list_any (λ id. has_rowid id r) ids ≡ true = λ r has child.
    let id = keyed r has in
    some_from (λ j. has_rowid j r) ids id.0 (are.complete r id.0 has child id.1) (has_own r id.0 id.1) in
    without_is ids rows ∙ filter_same _ _ rows (λ r has. ap not (both_ways _ _ (to r has) (from r has)))

-- an action that deletes takes the children out, and there are none for it to take out again
pub strikes_out : (schema : Schema) (keys : Keys) (w0 : Work) → w0.deed ≡ Delete → Strikes schema keys (λ w. w ≡ w0) w0.child.tree (IsShaped shape.Table) (bereft w0)
strikes_out schema keys w0 deletes = record {
  cuts = λ db next w ids is good are applied.
      let left = without_all (db w0.child.tree) ids in
      (subst (λ (v : Work). Applies schema keys db (action_edit db v ids) next) is applied).rows
      ∙ ap (λ d. put_all left (numbered Given left (map (λ s. cast_row w0.child s) (sources db w0 ids d)))) deletes
      ∙ cut_is db w0 ids good.0 (subst (λ v. AreChildren db v ids) is are) (λ r has. int_value (rowid r) (all_has (λ r. IsTrue (is_int (rowid r))) (db w0.child.tree) r good.1 has));
  keeps = λ rows good. IsShaped-filter shape.Table _ rows good;
  twice = λ rows. let is_gone = λ (r : Row). list_any (is_child_of w0 r) w0.moves in filter_twice is_gone is_gone rows ∙ filter_same _ _ rows (λ r has. ap not (or_self (is_gone r)));
}
