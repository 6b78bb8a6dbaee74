-- A SELECT of ours that counts, whole: what it does to the connection, what it counts, and that it is not refused.
use Rattle.wu_schema.proofs.Words.{Database, Err, Fault, Ghosts, HasCleanDisk, Held, IfErr, List, None, NotAProject, Ok, Option, Result, Row, Shown, Some, Refines, Value, World, [], ap, column, inl, inr, length, refl, state, subst, sym, ℕ, ◌∙◌, ◌∷◌, ◌≡◌, ◌≢◌, ◌⊎◌}
use Rattle.wu_core.specs.declared.fault.Fault.TheVariants.{Memory}
use Rattle.wu_schema.specs.Asking.{Asks, IsSelect, ServesUnlessFailed, TellsQuery}
use Rattle.wu_schema.specs.Tables.{IsClassedVersion}
use Rattle.wu_schema.proofs.ReadLemmas.{if_ok, if_err}
use Rattle.wu_schema.proofs.ToldLemmas.{counted_told}
use Rattle.wu_schema.proofs.Parts.{parts_there}
use Rattle.wu_schema.specs.declared.table.ProjectTable.{ProjectTable}
use Rattle.wu_schema.specs.ProjectTables.{IsTableOf, table_at, table_name}
use Rattle.wu_schema.proofs.CountTexts.{CountFits, Counted, IsCountTyped, count_parsed, count_select}
use Rattle.wu_schema.proofs.QuietLemmas.{same_some}
use Rattle.sqlite_sql.specs.Aggregate.{count}
use Rattle.wu_store.specs.Answers.{ShowsLast}
use Rattle.wu_store.specs.Loading.{IsStoreFault}
use Rattle.wu_store.specs.Reads.{WithClasses}
use Rattle.wu_schema.specs.Reading.{IsReadFault}
use Rattle.wu_store.proofs.AskLemmas.{HasAsked, IsQuestion, never_refused, never_told, only_taken}
use Rattle.wu_views.specs.Counting.{FailsCount, IsCount, ReadsCount, ShowsCount}

-- ---- the count of a row

-- no count is unread, want of memory aside
pub count_refused : (cell : Value) (r : Result ℕ Fault) → ReadsCount cell r → IfErr r IsReadFault
count_refused cell r reads = if_err r _ _ (λ fault h. elim h [ inl memory ↦ inl memory | inr none ↦ inr none.0 ]) reads.refused

module _ {S : Type 0} (g : Ghosts S) (old new : Held S) (sql : List ℕ) (params : Row) (taken : Option Row) (shows : ShowsLast g old new (Ok taken) sql params) where
  -- where the answer is a count, that is its row
  counted_row : (clean : HasCleanDisk (state g new)) (n : ℕ) → IsCount (shows clean).0 n → taken ≡ Some (count n ∷ [])
  counted_row clean n is = let last = (shows clean).2 in only_taken (shows clean).0 last.rest (Some (count n ∷ [])) taken is last.parts last.some

  module _ (row : Row) (here : taken ≡ Some row) (r : Result ℕ Fault) (reads : ReadsCount (column row 0) r) where
    counted_cell : (clean : HasCleanDisk (state g new)) (n : ℕ) → IsCount (shows clean).0 n → column row 0 ≡ count n
    counted_cell clean n is = ap (λ row. column row 0) (same_some (sym here ∙ counted_row clean n is))

    pub count_shown : ShowsCount g old new r sql params
    count_shown clean = if_ok r _ _ (λ found h. ((shows clean).0, (shows clean).1, λ n is. h n (counted_cell clean n is))) reads.value

    pub count_fails : FailsCount g old new r sql params
    count_fails clean = if_err r _ _ (λ fault h. elim h [ inl memory ↦ inl memory | inr none ↦ inr (inr ((shows clean).0, (shows clean).1, λ n is. none.1 n (counted_cell clean n is))) ]) reads.refused

  pub none_fails : taken ≡ None → FailsCount g old new (Err NotAProject) sql params
  none_fails none clean = inr (inr ((shows clean).0, (shows clean).1, λ n is. let no = sym none ∙ counted_row clean n is in absurd cc))

-- ---- a question that counts

-- one that counts rows of its table
pub count_question : (p : ProjectTable) → ((version : ℕ) → IsTableOf p version) → (q : Counted) → ((tree : ℕ) → CountFits (table_name p) (table_at p tree) q) → (params : Row) → length params ≡ length q.parameters
    → ((tree : ℕ) → IsCountTyped (table_name p) (table_at p tree) q params) → IsQuestion q.text params Refines
count_question p in_p q fits params few typed = record {
  select = record { parsed = count_parsed (table_name p) (table_at p 0) q; select = count_select (table_name p) (table_at p 0) q; read = (fits 0).read; is = refl };
  told = λ old new e h world s unlimited. let has = parts_there old.now world s p (in_p world.version) in counted_told (table_name p) has.0 _ q (fits _) old new has.1 params e few (typed _) unlimited h;
}

-- one that counts rows of a table of classes
pub class_count_question : (p : ProjectTable) → ((version : ℕ) → IsClassedVersion version → IsTableOf p version) → (q : Counted) → ((tree : ℕ) → CountFits (table_name p) (table_at p tree) q) → (params : Row) → length params ≡ length q.parameters
    → ((tree : ℕ) → IsCountTyped (table_name p) (table_at p tree) q params) → IsQuestion q.text params WithClasses
class_count_question p in_p q fits params few typed = record {
  select = record { parsed = count_parsed (table_name p) (table_at p 0) q; select = count_select (table_name p) (table_at p 0) q; read = (fits 0).read; is = refl };
  told = λ old new e h world stood unlimited.
      let has = parts_there old.now world stood.1 p (in_p world.version stood.0) in
      counted_told (table_name p) has.0 _ q (fits _) old new has.1 params e few (typed _) unlimited h;
}

-- the number that its one row counts
module _ {S : Type 0} {text : List ℕ} {params : Row} {Over : Database → World → Type 0} (g : Ghosts S) (it : IsQuestion text params Over) (old new : Held S) (given : Row) (same : given ≡ params) (of : World → ℕ)
    (counts : (rows : List Row) → Shown text params (state g old) (state g new) rows → (world : World) → Over (state g old).now world → IsCount rows (of world)) where
  shown_as : (rows : List Row) → Shown text given (state g old) (state g new) rows → Shown text params (state g old) (state g new) rows
  shown_as rows h = subst (λ ps. Shown text ps (state g old) (state g new) rows) same h

  never_failed : (fault : Fault) → (world : World) → Over (state g old).now world → (state g old).step_limit ≡ None
      → (fault ≡ Memory) ⊎ (TellsQuery text given (state g old) (state g new) fault ⊎ ((rows : List Row) × Shown text given (state g old) (state g new) rows × ((n : ℕ) → ¬ IsCount rows n))) → fault ≢ NotAProject
  never_failed fault world s limit (inl memory) = never_refused fault (inl memory)
  never_failed fault world s limit (inr (inl told)) = never_told g it old new given same fault told world s limit
  never_failed fault world s limit (inr (inr other)) = λ is. other.2 (of world) (counts other.0 (shown_as other.0 other.1) world s)

  pub asked_count : (r : Result ℕ Fault) → (IsSelect text → Asks g old new r) → (IsSelect text → ServesUnlessFailed g new r) → ShowsCount g old new r text given → FailsCount g old new r text given → IfErr r IsStoreFault → HasAsked g old new r Over (λ found world. found ≡ of world)
  asked_count r asks opens shows fails told = record {
    asks = asks it.select;
    opens = λ asked. opens it.select;
    fault = told;
    found = λ clean world s. if_ok r _ _ (λ found h. h.2 (of world) (counts h.0 (shown_as h.0 h.1) world s)) (shows clean);
    unrefused = λ clean world s any limit. if_err r _ _ (λ fault h. never_failed fault world s limit h) (fails clean);
  }
