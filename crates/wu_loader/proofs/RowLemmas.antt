-- How rows read as values.
use Rattle.wu_schema.proofs.Words.{Err, Fault, Grant, Import, Instance, IsErrAnd, NotAProject, Ok, Result, Row, Value, [], ap, column, drop, import_cells, inl, inr, instance_row, length, map, number, refl, subst, suc, sym, ℕ, ⊤, ◌∙◌, ◌∷◌, ◌≡◌}
use Rattle.std.specs.List.{range_with_len}
use Rattle.wu_core.specs.World.{MayBeKept}
use Rattle.sqlite.specs.declared.types.Value.TheVariants.{Text, Blob}
use Rattle.wu_core.specs.Storable.{AreVerdicts, IsName, IsStoredInstance}
use Rattle.wu_schema.specs.Restoring.{Restores}
use Rattle.wu_schema.specs.Reading.{columns, kind_cell, verdicts_cell}
use Rattle.wu_schema.proofs.ReadLemmas.{if_ok}
use Rattle.wu_schema.proofs.ReadingLemmas.{not_ok, whole_row}
use Rattle.wu_store.proofs.SameWorld.{import_again, read_import, read_number, read_text, same_by, same_instances}
use Rattle.wu_loader.specs.declared.rows.Placed.{Placed}
use Rattle.wu_loader.specs.Rows.{grant_row, placed_row, IsStoredImport, IsStoredPlaced}

-- a row that is the row of one value alone is read as it
pub reads_as : {T : Type 0} (cells : T → Row) (IsValue : T → Type 0) (row : Row) (x : T) → row ≡ cells x → IsValue x → ((a b : T) → IsValue a → IsValue b → cells a ≡ cells b → a ≡ b) → Restores cells IsValue row (Ok x)
reads_as cells IsValue row x same is one = record { value = (same, is); found = λ y is_y other. inl (ap (λ z. Ok z) (one x y is is_y (sym same ∙ other))); refused = tt }

-- a row is its columns
pub columns_of : (row : Row) (n : ℕ) → length row ≡ n → row ≡ map (column row) (range_with_len 0 n)
columns_of row n long = sym (whole_row n row long)

-- a value that is read behind its place
pub behind_place : {T : Type 0} (cells : T → Row) (IsValue : T → Type 0) (row : Row) (count place first : ℕ) (r : Result T Fault) → length row ≡ suc count → first ≡ place → Restores number (λ _. ⊤) (column row 0) (Ok first) → Restores cells IsValue (columns row 1 count) r
    → Restores (λ x. number place ∷ cells x) IsValue row r
behind_place cells IsValue row count place first r long at first_is rest =
    let row_is : row ≡ number place ∷ columns row 1 count = columns_of row (suc count) long ∙ (λ i. (first_is.value.0 ∙ ap number at) i ∷ columns row 1 count) in
    record {
      value = if_ok r _ _ (λ x is. (row_is ∙ ap (λ cs. number place ∷ cs) is.0, is.1)) rest.value;
      found = λ x is same. rest.found x is (ap (drop 1) (sym row_is ∙ same));
      refused = rest.refused;
    }

-- ---- imports

-- the values of an import's row
pub record ImportReads (row : Row) (a : Import) : Type 0 where
  pub row_is : row ≡ import_cells a
  pub name : IsName a.name
  pub verdicts : AreVerdicts a.kind a.verdicts

pub one_import : (a b : Import) → IsStoredImport a → IsStoredImport b → import_cells a ≡ import_cells b → a ≡ b
one_import a b is_a is_b = same_by import_cells read_import import_again a b

pub import_reads : (row : Row) (a : Import) → length row ≡ 6 → Restores kind_cell (λ _. ⊤) (column row 0) (Ok a.kind) → Restores Text IsName (column row 1) (Ok a.name)
    → Restores Blob (λ _. ⊤) (column row 2) (Ok a.template) → Restores Blob (λ _. ⊤) (column row 3) (Ok a.content) → Restores number (λ _. ⊤) (column row 4) (Ok a.first_number)
    → Restores verdicts_cell (AreVerdicts a.kind) (column row 5) (Ok a.verdicts) → ImportReads row a
import_reads row a long kind_is name_is template_is content_is first_is verdicts_are = record {
  row_is = columns_of row 6 long ∙ (λ i. kind_is.value.0 i ∷ name_is.value.0 i ∷ template_is.value.0 i ∷ content_is.value.0 i ∷ first_is.value.0 i ∷ verdicts_are.value.0 i ∷ []);
  name = name_is.value.1;
  verdicts = verdicts_are.value.1;
}

module _ (row : Row) (a : Import) (reads : ImportReads row a) where
  -- one that may be kept is read,
  pub import_kept : MayBeKept a → Restores import_cells IsStoredImport row (Ok a)
  import_kept may = reads_as import_cells IsStoredImport row a reads.row_is (record { name = reads.name; verdicts = reads.verdicts; kept = may }) one_import

  -- and the row of another is that of none
  pub import_unkept : ¬ MayBeKept a → Restores import_cells IsStoredImport row (Err NotAProject)
  import_unkept not = record {
    value = tt;
    found = λ b is same. absurd (not (subst MayBeKept (sym (same_by import_cells read_import import_again a b (sym reads.row_is ∙ same))) is.kept));
    refused = inr refl;
  }

-- ---- parts of a row

-- a row with a column that can't be read is stored of nothing
pub column_unread : {T U : Type 0} (part : T → U) (row : Row) (at : ℕ) {stored_as : T → Row} {cell : U → Value} {IsValue : T → Type 0} {IsPart : U → Type 0}
    → ((t : T) → IsValue t → IsPart (part t)) → ((t : T) → column (stored_as t) at ≡ cell (part t)) → {f : Fault} → Restores cell IsPart (column row at) (Err f) → (r : Result T Fault) → IsErrAnd r (λ other. other ≡ f) → Restores stored_as IsValue row r
column_unread part row at are shown unread (Ok y) same = absurd same
column_unread part row at {stored_as} {cell} {IsValue} {IsPart} are shown {f} unread (Err other) same = subst (λ (g : Fault). Restores stored_as IsValue row (Err g)) (sym same) (record {
  value = tt;
  found = λ t is stored. not_ok f (part t) t (unread.found (part t) (are t is) (ap (λ r. column r at) stored ∙ shown t));
  refused = unread.refused;
})

-- ---- instances

one_instance : (a b : Instance) → instance_row a ≡ instance_row b → a ≡ b
one_instance a b same = let lists : a ∷ [] ≡ b ∷ [] = same_instances (a ∷ []) (b ∷ []) (λ i. same i ∷ []) in cc

pub one_placed : (a b : Placed) → placed_row a ≡ placed_row b → a ≡ b
one_placed a b same =
    let instance = one_instance a.instance b.instance (ap (λ r. drop 2 r) same) in
    (λ i. record { workunit = read_number (column (same i) 0); n = read_number (column (same i) 1); instance = instance i })

pub placed_reads : (row : Row) (p : Placed) → length row ≡ 11 → Restores number (λ _. ⊤) (column row 0) (Ok p.workunit) → Restores number (λ _. ⊤) (column row 1) (Ok p.n) → Restores instance_row IsStoredInstance (columns row 2 9) (Ok p.instance)
    → Restores placed_row IsStoredPlaced row (Ok p)
placed_reads row p long workunit_is n_is instance_is =
    reads_as placed_row IsStoredPlaced row p
    (columns_of row 11 long ∙ (λ i. workunit_is.value.0 i ∷ n_is.value.0 i ∷ instance_is.value.0 i)) instance_is.value.1 (λ a b is_a is_b. one_placed a b)

-- ---- grants

pub one_grant : (place : ℕ) (a b : Grant) → grant_row place a ≡ grant_row place b → a ≡ b
one_grant place a b same = λ i. record { workunit = read_number (column (same i) 1); n = read_number (column (same i) 2); host = read_text (column (same i) 3); credit = read_number (column (same i) 4) }
