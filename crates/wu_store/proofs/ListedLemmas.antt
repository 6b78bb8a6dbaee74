-- A table that lists things in order of their making, from 1: grants, and archived rows.
use Rattle.wu_schema.proofs.Words.{AllByRecursion, Archived, Database, IsShaped-put_row, Less, List, ListsAll, Null, PutsOne, Row, Refines, World, [], ap, archived_cells, arith, enumerate_from, false, length, map, map-append, number, put_row, refl, rowid, stored_archived, sym, value_cmp, ℕ, ◌++◌, ◌+◌, ◌<◌, ◌∙◌, ◌∷◌, ◌≡◌}
use Rattle.wu_store.specs.Changes.{IsNextPlace, with_archived}
use Rattle.wu_schema.proofs.Parts.{Holds, is_part, frame_one}
use Rattle.wu_schema.specs.declared.table.ProjectTable.{ProjectTable}
use Rattle.wu_schema.specs.declared.table.ProjectTable.TheVariants as the_table
use Rattle.wu_schema.proofs.StandsLemmas.{lists_still}
use Rattle.wu_schema.proofs.PutLemmas.{put_last, number_less}
use Rattle.wu_store.proofs.PlacedLemmas.{enumerate_more, keeps_put}

module _ {X : Type 0} (cells : X → Row) where
  -- a thing at its place, as the table keeps it
  abbrev pub listed : ℕ × X → Row
  listed p = number p.0 ∷ Null ∷ cells p.1

  abbrev rows_from : ℕ → List X → List Row
  rows_from k xs = map listed (enumerate_from k xs)

  all_below : (k n : ℕ) (new : Row) (xs : List X) → rowid new ≡ number n → k + length xs < n + 1 → AllByRecursion (λ r. value_cmp (rowid r) (rowid new) ≡ Less) (rows_from k xs)
  all_below k n new [] is low = tt
  all_below k n new (x ∷ xs) is low = (ap (value_cmp (number k)) is ∙ number_less k n (omega (arith, low)), all_below (k + 1) n new xs is (omega (arith, low)))

  -- a thing at the next place comes last
  pub listed_next : (rows : List Row) (xs : List X) (place : ℕ) (x : X) → IsNextPlace place xs → ListsAll rows (rows_from 1 xs) → ListsAll (put_row (listed (place, x)) rows) (rows_from 1 (xs ++ x ∷ []))
  listed_next rows xs place x next l =
      let new = listed (place, x) in
      let at : place ≡ 1 + length xs = omega (arith, next) in
      record {
        shaped = IsShaped-put_row new rows refl l.shaped;
        same = ap (put_row new) l.same ∙ put_last new (rows_from 1 xs) (all_below 1 place new xs refl (omega (arith, next))) ∙ (λ i. rows_from 1 xs ++ listed (at i, x) ∷ [])
            ∙ sym (ap (map listed) (enumerate_more 1 xs x) ∙ map-append listed (enumerate_from 1 xs) ((1 + length xs, x) ∷ []));
      }

-- an archived row behind the others
pub stands_with_archived : (old new : Database) (world : World) (s : Refines old world) (place : ℕ) (a : Archived) → PutsOne old new (s.trees the_table.Archived) (stored_archived (place, a)) → IsNextPlace place world.archived → Refines new (with_archived a world)
stands_with_archived old new world s place a put next =
    frame_one old new world (with_archived a world) s the_table.Archived tt put.schema refl (keeps_put old new world s the_table.Archived (stored_archived (place, a)) tt put) carry
    (lists_still put.rows (listed_next archived_cells (old.trees (s.trees the_table.Archived)) world.archived place a next s.rows.archived)) put.sound
  where
    carry : (q : ProjectTable) → is_part the_table.Archived q ≡ false → (rows : List Row) → Holds q rows world → Holds q rows (with_archived a world)
    carry the_table.Archived off rows h = absurd (cc)
    carry _ off rows h = h
