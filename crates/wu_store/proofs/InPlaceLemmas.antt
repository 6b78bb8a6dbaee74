-- A row is replaced where it stands.
use Rattle.wu_schema.proofs.Words.{Equal, Greater, Has, Int, IsTable, Less, List, Ordering, Row, [], all_has, ap, cases_Bool, false, filter, if◌then◌else◌, inl, inr, is_eq, map, ordering_reverse, refl, sym, true, value_cmp, value_cmp_total, ℤ, ◌∙◌, ◌∷◌, ◌≡◌}
use Rattle.wu_store.proofs.FallLemmas.{has_own}
use Rattle.std.proofs.lemmas.Cmp.{tied_back}
use Rattle.sqlite_trees.specs.Tree.{rowid, has_rowid, put_row, without_rowid}

pub equal_is : (r : Ordering) → is_eq r ≡ true → r ≡ Equal
equal_is Less h = absurd (cc)
equal_is Equal h = refl
equal_is Greater h = absurd (cc)

-- what is above the row with the id is above the id
above_it : (id : ℤ) (r s : Row) → has_rowid id r ≡ true → value_cmp (rowid r) (rowid s) ≡ Less → value_cmp (rowid s) (Int id) ≡ Greater
above_it id r s is low =
    let back = tied_back value_cmp_total (rowid r) (Int id) (equal_is _ is) in
    value_cmp_total.antisymm (rowid s) (Int id) ∙ ap ordering_reverse (value_cmp_total.congr (Int id) (rowid r) (rowid s) back ∙ low)

abbrev pub replaced : ℤ → Row → List Row → List Row
replaced id new = map (λ r. if has_rowid id r then new else r)

none_kept : (id : ℤ) (r : Row) (rows : List Row) → has_rowid id r ≡ true → ((s : Row) → Has rows s → value_cmp (rowid r) (rowid s) ≡ Less) → (new : Row)
    → (without_rowid id rows ≡ rows) × (replaced id new rows ≡ rows) × (filter (has_rowid id) rows ≡ [])
none_kept id r [] is up new = (refl, refl, refl)
none_kept id r (s ∷ rows) is up new =
    let off : has_rowid id s ≡ false = ap is_eq (above_it id r s is (up s (inl refl))) in
    let more = none_kept id r rows is (λ t h. up t (inr h)) new in
    (rw off (ap (λ l. s ∷ l) more.0), rw off (ap (λ l. s ∷ l) more.1), rw off more.2)

put_first : (new : Row) (rows : List Row) → ((s : Row) → Has rows s → value_cmp (rowid s) (rowid new) ≡ Greater) → put_row new rows ≡ new ∷ rows
put_first new [] up = refl
put_first new (s ∷ rows) up = rw (up s (inl refl)) refl

module _ (id : ℤ) (new x : Row) (is : rowid x ≡ Int id) (new_is : rowid new ≡ Int id) where
  pub in_place : (rows : List Row) → IsTable rows → Has rows x → put_row new (without_rowid id rows) ≡ replaced id new rows
  in_place [] up has = absurd has
  in_place (r ∷ rows) up has = elim (cases_Bool (has_rowid id r)) [
    | inl on ↦
        let lower : (s : Row) → Has rows s → value_cmp (rowid r) (rowid s) ≡ Less = λ s h. all_has (λ t. value_cmp (rowid r) (rowid t) ≡ Less) rows s up.0 h in
        let none = none_kept id r rows on lower new in
        let first = put_first new rows (λ s h. ap (value_cmp (rowid s)) new_is ∙ above_it id r s on (lower s h)) in
        rw on (ap (put_row new) none.0 ∙ first ∙ ap (λ l. new ∷ l) (sym none.1))
    | inr off ↦ elim has [
      | inl same ↦ absurd (let e = sym (has_own x id is) ∙ ap (has_rowid id) same ∙ off in cc)
      | inr later ↦
          let below : value_cmp (rowid r) (rowid new) ≡ Less = ap (value_cmp (rowid r)) (new_is ∙ sym is) ∙ all_has (λ t. value_cmp (rowid r) (rowid t) ≡ Less) rows x up.0 later in
          rw (off, below) (ap (λ l. r ∷ l) (in_place rows up.1 later))
    ]
  ]
