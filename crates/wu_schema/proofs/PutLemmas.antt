-- A row that is put into a table.
use Rattle.wu_schema.proofs.Words.{AllByRecursion, Bool, Equal, Greater, Int, IsPermutation, IsPermutation-cons, IsPermutation-refl, IsPermutation-trans, Less, List, Ordering, Row, [], ap, false, is_taken, lt→ltb, pos, put_row, refl, rowid, sym, true, value_cmp, value_cmp-Int, ℕ, ◌++◌, ◌<◌, ◌||◌, ◌∙◌, ◌∷◌, ◌≡◌}
use Rattle.std.specs.Cmp.{int_cmp_is}
use Rattle.std.proofs.lemmas.List.Sorted.{IsPermutation-middle}

-- a row above all others comes last
pub put_last : (new : Row) (rows : List Row) → AllByRecursion (λ r. value_cmp (rowid r) (rowid new) ≡ Less) rows → put_row new rows ≡ rows ++ new ∷ []
put_last new [] low = refl
put_last new (r ∷ rows) low = rw low.0 (ap (λ rs. r ∷ rs) (put_last new rows low.1))

-- a lower number is below
pub number_less : (m n : ℕ) → m < n → value_cmp (Int (pos m)) (Int (pos n)) ≡ Less
number_less m n low = value_cmp-Int (pos m) (pos n) ∙ sym (int_cmp_is (pos m) (pos n) Less (record { lt = lt→ltb m n low }))

-- a row whose rowid no other has comes beside the others
pub put_beside : (new : Row) (rows : List Row) → is_taken rows new ≡ false → IsPermutation (new ∷ rows) (put_row new rows)
put_beside new [] free = IsPermutation-refl (new ∷ [])
put_beside new (r ∷ rows) free = split (λ h. put_beside new rows h) (value_cmp (rowid r) (rowid new)) refl
  where
    last : (b c : Bool) → (b || c) ≡ false → c ≡ false
    last true c h = absurd (cc)
    last false c h = h

    split : (is_taken rows new ≡ false → IsPermutation (new ∷ rows) (put_row new rows)) → (o : Ordering) → value_cmp (rowid r) (rowid new) ≡ o → IsPermutation (new ∷ r ∷ rows) (put_row new (r ∷ rows))
    split again Less is = rw is (IsPermutation-trans _ _ _ (IsPermutation-middle (new ∷ []) r rows) (IsPermutation-cons r _ _ (again (last _ _ free))))
    split again Equal is = absurd (let e = rw is at free in cc)
    split again Greater is = rw is (IsPermutation-refl (new ∷ r ∷ rows))
