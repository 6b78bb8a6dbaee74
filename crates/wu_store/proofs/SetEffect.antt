-- What an UPDATE of the row of a key does, over any schema.
use Rattle.wu_schema.proofs.Words.{Bool, Executes, Has, HasTable, HoldsAll, Int, IsPermutation, IsPermutation-map, IsShaped, IsShaped-filter, IsShaped-put_row, List, ListsAll, Ok, Row, State, Table, Term, Update, [], all_from, ap, cases_Bool, cast_row, drop, eval_all, false, false_from_ne_true, filter, filter_none, has_rowid, if◌then◌else◌, inl, inr, is_int, length_permutation, list_any, map, map-map, mode_of, number, one_permutation, pos, put_row, refl, row_at_is, rowid, runs_as, some_has, statement_of, subst, sym, true, understood, without_rowid, ℕ, ℤ, ◌==◌, ◌∙◌, ◌∷◌, ◌≡◌}
use Rattle.sqlite_trees.specs.declared.store.Shape.TheVariants as shape
use Rattle.wu_schema.proofs.AnswerLemmas.{meeting, showing}
use Rattle.wu_schema.proofs.Parts.{either_false}
use Rattle.wu_schema.proofs.QueryLemmas.{alone, plain_query}
use Rattle.wu_schema.proofs.RowLemmas.{filter_same, map_same, no_rows, one_test}
use Rattle.wu_schema.proofs.SetTexts.{SetBy, SetFits, set_compiles, set_tests}
use Rattle.wu_store.proofs.DeleteEffect.{has_number, only_row, own_number}
use Rattle.wu_store.proofs.DeleteTexts.{by_number}
use Rattle.wu_store.proofs.EqualLemmas.{number_tied}
use Rattle.wu_store.proofs.FallLemmas.{has_own}
use Rattle.wu_store.proofs.InPlaceLemmas.{in_place, replaced}
use Rattle.wu_store.proofs.UpdateEffect.{Sets, resets, update_sets}

-- the rows that meet the tests are set
module _ (old new : State) (table : Table) (at : ℕ) (has : HasTable old.now.schema table.name at table) (stands : Has old.now.schema.tables table) (from : ℕ) (q : SetBy) (fits : SetFits table from q) (params : Row) (count : ℕ)
    (ran : Executes q.text params old new (Ok count)) where
  pub sets_by : Sets old.now new.now table (set_tests table from q) q.made params
  sets_by =
      let schema = old.now.schema in
      let it = set_compiles schema at table has from q fits in
      let done = runs_as q.text params old new schema refl (Update at (alone (plain_query table.tree (set_tests table from q) q.made))) it.is it.plain count ran in
      update_sets old.now new.now old.step_limit (mode_of old) refl done.sound params (statement_of q.text (understood schema q.text)) table.name at table has stands (set_tests table from q) q.made done.tally done.changed

-- where no row has the rowid, none is replaced
none_replaced : (id : ℤ) (new : Row) (rows : List Row) → list_any (has_rowid id) rows ≡ false → replaced id new rows ≡ rows
none_replaced id new [] none = refl
none_replaced id new (r ∷ rows) none = let parts = either_false (has_rowid id r) (list_any (has_rowid id) rows) none in rw parts.0 (ap (λ rs. r ∷ rs) (none_replaced id new rows parts.1))

-- the row of a rowid is set
module _ (n : ℤ) (row : Row) (rows : List Row) (good : IsShaped shape.Table rows) (key : rowid row ≡ Int n) where
  -- none has it, or one
  abbrev pub IsOne : Row → Type 0
  IsOne x = Has rows x × (rowid x ≡ Int n) × (filter (has_rowid n) rows ≡ x ∷ [])

  meets_key : (more : Row) → meeting by_number (Int n ∷ more) rows ≡ filter (has_rowid n) rows
  meets_key more = filter_same _ _ rows (λ r there. one_test _ ∙ has_number n rows good r there)

  pub found_one : list_any (has_rowid n) rows ≡ true → (x : Row) × IsOne x
  found_one some =
      let it = some_has (has_rowid n) rows some in
      (it.0, (it.1, own_number n rows good it.0 it.1 it.2, only_row n rows it.0 good.0 it.1 it.2))

  pub replaced_shaped : IsShaped shape.Table (replaced n row rows)
  replaced_shaped = elim (cases_Bool (list_any (has_rowid n) rows)) [
    | inl some ↦
        let it = found_one some in
        subst (IsShaped shape.Table) (in_place n row it.0 it.1.1 key rows good.0 it.1.0) (IsShaped-put_row row (without_rowid n rows) (ap (λ v. is_int v) key) (IsShaped-filter shape.Table _ rows good))
    | inr none ↦ subst (IsShaped shape.Table) (sym (none_replaced n row rows none)) good
  ]

  -- where it is the only row whose cells pass a test, those cells become the new ones, and no others
  module _ (mine : Row → Bool) (x : Row) (has : Has rows x) (own : rowid x ≡ Int n) (on : mine (drop 1 x) ≡ true) (only : (r : Row) → Has rows r → mine (drop 1 r) ≡ true → r ≡ x) where
    abbrev set_cells : Row → Row
    set_cells c = if mine c then drop 1 row else c

    each : (r : Row) → Has rows r → drop 1 (if has_rowid n r then row else r) ≡ set_cells (drop 1 r)
    each r there = elim (cases_Bool (has_rowid n r)) [
      | inl tied ↦
          let one : x ≡ r = sym (row_at_is rows n x good.0 has (has_own x n own)) ∙ row_at_is rows n r good.0 there tied in
          let found : mine (drop 1 r) ≡ true = ap (λ s. mine (drop 1 s)) (sym one) ∙ on in
          rw (tied, found) refl
      | inr off ↦
          let other : mine (drop 1 r) ≡ false = false_from_ne_true _ (λ h. let e = sym off ∙ ap (has_rowid n) (only r there h) ∙ has_own x n own in cc) in
          rw (off, other) refl
    ]

    pub holds_set : (cells : List Row) → HoldsAll rows cells → HoldsAll (replaced n row rows) (map set_cells cells)
    holds_set cells h = record {
      shaped = replaced_shaped;
      same = subst (IsPermutation (map set_cells cells)) (sym (map-map (drop 1) (λ r. if has_rowid n r then row else r) rows ∙ map_same _ (λ r. set_cells (drop 1 r)) rows each ∙ sym (map-map set_cells (drop 1) rows)))
          (IsPermutation-map set_cells cells (map (drop 1) rows) h.same);
    }

  module _ (table : Table) (made : List Term) (more source : Row) (kept : cast_row table source ≡ row) (shows : (x : Row) → rowid x ≡ Int n → eval_all made ((Int n ∷ more) ∷ x ∷ []) ≡ Int n ∷ source) (found : List Row) (shown : IsPermutation (showing made (Int n ∷ more) (meeting by_number (Int n ∷ more) rows)) found) where
    shown_of : (xs : List Row) → filter (has_rowid n) rows ≡ xs → IsPermutation (showing made (Int n ∷ more) xs) found
    shown_of xs is = subst (λ rs. IsPermutation (showing made (Int n ∷ more) rs) found) (meets_key more ∙ is) shown

    pub found_is : (x : Row) → IsOne x → found ≡ (Int n ∷ source) ∷ []
    found_is x one = one_permutation _ found (shown_of (x ∷ []) one.2) ∙ ap (λ r. r ∷ []) (shows x one.1)

    pub resets_one : resets table rows found ≡ replaced n row rows
    resets_one = elim (cases_Bool (list_any (has_rowid n) rows)) [
      | inl some ↦
          let it = found_one some in
          ap (resets table rows) (found_is it.0 it.1) ∙ ap (λ r. put_row r (without_rowid n rows)) kept ∙ in_place n row it.0 it.1.1 key rows good.0 it.1.0
      | inr none ↦
          let empty = filter_none (has_rowid n) rows (all_from (λ r. has_rowid n r ≡ false) rows (λ r there. none_off rows none r there)) in
          ap (resets table rows) (no_rows found (length_permutation [] found (shown_of [] empty))) ∙ sym (none_replaced n row rows none)
    ]
      where
        none_off : (rs : List Row) → list_any (has_rowid n) rs ≡ false → (r : Row) → Has rs r → has_rowid n r ≡ false
        none_off [] none r there = absurd there
        none_off (s ∷ rs) none r (inl same) = ap (has_rowid n) same ∙ (either_false (has_rowid n s) _ none).0
        none_off (s ∷ rs) none r (inr later) = none_off rs (either_false (has_rowid n s) _ none).1 r later

-- ---- in a table that lists things by their numbers

module _ {X : Type 0} (key : X → ℕ) (cells : X → Row) where
  abbrev keyed : X → Row
  keyed x = number (key x) ∷ cells x

  -- the thing in place of what has its number
  abbrev pub in_its_place : X → List X → List X
  in_its_place x = map (λ y. if key y == key x then x else y)

  pub replaced_keyed : (x : X) (xs : List X) → replaced (pos (key x)) (keyed x) (map keyed xs) ≡ map keyed (in_its_place x xs)
  replaced_keyed x [] = refl
  replaced_keyed x (y ∷ ys) = ap (λ rs. (if has_rowid (pos (key x)) (keyed y) then keyed x else keyed y) ∷ rs) (replaced_keyed x ys) ∙ ap (λ r. r ∷ map keyed (in_its_place x ys)) (one (key y == key x) (number_tied (key y) (key x)))
    where
      one : (b : Bool) → has_rowid (pos (key x)) (keyed y) ≡ b → (if has_rowid (pos (key x)) (keyed y) then keyed x else keyed y) ≡ keyed (if b then x else y)
      one true on = rw on refl
      one false off = rw off refl

  pub lists_in_its_place : (x : X) (xs : List X) (rows : List Row) → ListsAll rows (map keyed xs) → ListsAll (replaced (pos (key x)) (keyed x) rows) (map keyed (in_its_place x xs))
  lists_in_its_place x xs rows l = record {
    shaped = replaced_shaped (pos (key x)) (keyed x) rows l.shaped refl;
    same = ap (replaced (pos (key x)) (keyed x)) l.same ∙ replaced_keyed x xs;
  }
