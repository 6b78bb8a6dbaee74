-- Which rows of a tree a question shows as they are.
use Rattle.wu_schema.proofs.Words.{Column, Database, Has, IsDatabase, List, Null, Option, Row, Some, Table, Value, [], all_has, and_parts, ap, arith, column, drop, length, map, refl, suc, sym, true, zero, ℕ, ◌+◌, ◌-◌, ◌<◌, ◌∙◌, ◌∷◌, ◌≡◌, ◌≢◌, ◌≤◌}
use Rattle.std.specs.List.{range_with_len}
use Rattle.sqlite_schema.specs.Rules.{are_typed}
use Rattle.sqlite_schema.specs.declared.schema.Constraint.TheVariants.{Datatype}
use Rattle.sqlite_sql.specs.Ops.{is_null}
use Rattle.sqlite.specs.declared.types.Value.TheVariants.{Int, Real, Text, Blob}
use Rattle.wu_schema.proofs.ReadingLemmas.{as_columns, shifted}
use Rattle.wu_loader.specs.Shown.{behind_key, keyed, unkeyed}

-- ---- a row and its columns

-- a column with something in it is there
far : (row : Row) (n : ℕ) → column row n ≢ Null → n < length row
far [] n some = absurd (some refl)
far (v ∷ row) zero some = omega arith
far (v ∷ row) (suc n) some = let r = far row n some in omega (arith, r)

-- ---- what the rule of types says of a row

short : (key : Option ℕ) (at : ℕ) (cs : List Column) (vs : Row) → are_typed key at cs vs ≡ true → length vs ≤ length cs
short key at [] [] typed = omega arith
short key at [] (v ∷ vs) typed = absurd cc
short key at (c ∷ cs) [] typed = omega arith
short key at (c ∷ cs) (v ∷ vs) typed = let r = short key (at + 1) cs vs (and_parts _ _ typed).1 in omega (arith, r)

null_is : (v : Value) → is_null v ≡ true → v ≡ Null
null_is Null is = refl
null_is (Int n) is = absurd cc
null_is (Real x) is = absurd cc
null_is (Text t) is = absurd cc
null_is (Blob b) is = absurd cc

-- the cells behind the rowid have the types of the columns
pub row_typed : (db : Database) → IsDatabase db → (t : Table) → Has db.schema.tables t → (row : Row) → Has (db.trees t.tree) row → are_typed t.key 0 t.columns (drop 1 row) ≡ true
row_typed db sound t listed row has =
    let rule = all_has _ (db.trees t.tree) row (all_has _ db.schema.tables t (sound.obeys.rules Datatype) listed) has in
    (and_parts _ _ rule).0

-- so there is no cell too many
pub row_short : (row : Row) (t : Table) → are_typed t.key 0 t.columns (drop 1 row) ≡ true → length row ≤ length t.columns + 1
row_short [] t typed = omega arith
row_short (v ∷ row) t typed = let r = short t.key 0 t.columns row typed in omega (arith, r)

-- ---- whole rows

-- a row with a value in its last column is whole
pub whole_last : (row : Row) (t : Table) (count : ℕ) → length t.columns ≡ count → are_typed t.key 0 t.columns (drop 1 row) ≡ true → column row count ≢ Null → length row ≡ count + 1
whole_last row t count long typed some = let a = row_short row t typed in let b = far row count some in omega (arith, a, b, long)

-- a whole row of a table whose key is the rowid is what is shown of it, behind the key
pub keyed_is : (row : Row) (c : Column) (cs : List Column) (count : ℕ) → are_typed (Some 0) 0 (c ∷ cs) (drop 1 row) ≡ true → length row ≡ suc count + 1 → row ≡ behind_key (keyed (suc count) row)
keyed_is [] c cs count typed whole = absurd (omega (arith, whole))
keyed_is (v ∷ []) c cs count typed whole = absurd (omega (arith, whole))
keyed_is (v ∷ w ∷ row) c cs count typed whole =
    let empty : w ≡ Null = null_is w (and_parts _ _ typed).0 in
    let long : suc count - 1 ≡ length row = omega (arith, whole) in
    let cells : map (column (v ∷ w ∷ row)) (range_with_len 2 (suc count - 1)) ≡ row = shifted v (w ∷ row) 1 (suc count - 1) ∙ shifted w row 0 (suc count - 1) ∙ ap (λ n. map (column row) (range_with_len 0 n)) long ∙ as_columns row in
    (λ i. v ∷ empty i ∷ sym cells i)

-- so is one of a table whose rowids the store chooses, behind its rowid
pub unkeyed_is : (row : Row) (count : ℕ) → length row ≡ count + 1 → drop 1 row ≡ unkeyed count row
unkeyed_is [] count whole = absurd (omega (arith, whole))
unkeyed_is (v ∷ row) count whole =
    let long : count ≡ length row = omega (arith, whole) in
    sym (shifted v row 0 count ∙ ap (λ n. map (column row) (range_with_len 0 n)) long ∙ as_columns row)
