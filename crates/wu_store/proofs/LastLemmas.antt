-- The last key of a table: the SELECT of it, over any schema in which the table is found, and what it answers.
use Rattle.wu_schema.proofs.Words.{AllByRecursion, Answers, Expr-F, Int, IsAscending, IsPermutation, IsPermutation-refl, IsPermutation-sym, IsPermutation-trans, Less, List, Output, Refines, Row, Shown, Some, State, Table, World, [], ap, append-nil, arith, codes, col, column, enumerate_from, everything, filter, length, lit, map, map-map, number, option_to_list, pos, refl, roll-Expr, stored_archived, stored_grant, subst, suc, sym, take, true, zero, ℕ, ◌++◌, ◌+◌, ◌<◌, ◌∙◌, ◌∷◌, ◌≡◌}
use Rattle.std.proofs.lemmas.List.Sorted.{IsPermutation-middle}
use Rattle.wu_schema.proofs.QueryLemmas.{alone}
use Rattle.wu_schema.proofs.SelectLemmas.{Asked, FitsBy, accepts_by, compiles_by, parsed_by, query_by, select_by, terms_of}
use Rattle.wu_schema.proofs.AnswerLemmas.{shown_answers}
use Rattle.wu_schema.proofs.ToldLemmas.{never_over, query_told}
use Rattle.wu_schema.proofs.PutLemmas.{number_less}
use Rattle.wu_schema.proofs.RowLemmas.{no_test}
use Rattle.wu_store.specs.Answers.{last_archived, last_grant, last_of, last_place}
use Rattle.wu_store.proofs.AskLemmas.{IsQuestion}
use Rattle.wu_store.proofs.OrderAnswers.{in_order, pair, passing, sorted, sure_sorted}
use Rattle.wu_schema.proofs.Parts.{table_of, parts_there}
use Rattle.wu_schema.specs.declared.table.ProjectTable.{ProjectTable}
use Rattle.wu_schema.specs.declared.table.ProjectTable.TheVariants as the_table
use Rattle.wu_schema.specs.ProjectTables.{IsTableOf, table_at, table_name}
use Rattle.wu_store.specs.declared.texts.TheConstants.{SELECT_LAST_ARCHIVED, SELECT_LAST_GRANT}

-- the first column of the last row in its order
abbrev last_asked : List ℕ → Asked
last_asked text = record { text = text; parameters = []; shown = 0 ∷ []; tests = []; order = 0 ∷ []; limit = Some (roll-Expr (Expr-F.Integer (codes "1"))); upto = lit (Int (pos 1)) }

abbrev IsLast : ProjectTable → List ℕ → Type 0
IsLast p text = (tree : ℕ) → FitsBy (table_name p) (table_at p tree) (last_asked text) true

-- ---- what it asks

pub last_question : (p : ProjectTable) → ((version : ℕ) → IsTableOf p version) → (text : List ℕ) → IsLast p text → IsQuestion text [] Refines
last_question p in_p text fits = record {
  select = record { parsed = parsed_by (table_name p) (table_at p 0) (last_asked text) true; select = select_by (table_name p) (table_at p 0) (last_asked text) true; read = (fits 0).read; is = refl };
  told = λ old new e h world s unlimited.
      let has = parts_there old.now world s p (in_p world.version) in
      let table = table_of s.trees p in
      let fit = fits (s.trees p) in
      query_told text [] old new (parsed_by (table_name p) table (last_asked text) true) (query_by (table_name p) table (last_asked text) true) _ (compiles_by old.now.schema (table_name p) has.0 table has.1 (last_asked text) true fit) (omega arith) refl
      (accepts_by old.now.schema (table_name p) has.0 table has.1 (last_asked text) true fit [] fit.typed) (never_over table.tree (query_by (table_name p) table (last_asked text) true) [] (terms_of (table_name p) table (last_asked text)) old.now.trees [] refl refl) unlimited e h;
}

-- ---- places, from the last to the first

abbrev out : ℕ → Output
out n = (number n ∷ [], number n ∷ [])

abbrev downs : ℕ → List Output
downs zero = []
downs (suc n) = out (suc n) ∷ downs n

below : (m n : ℕ) → n < m → AllByRecursion (λ o. in_order true (out m) o ≡ Less) (downs n)
below m zero low = tt
below m (suc n) low = (number_less (suc n) m low, below m n (omega (arith, low)))

fall : (n : ℕ) → IsAscending (λ a b. in_order true a b ≡ Less) (downs n)
fall zero = tt
fall (suc n) = (below (suc n) n (omega arith), fall n)

abbrev ups : {X : Type 0} → ℕ → List X → List Output
ups k xs = map (λ p. out p.0) (enumerate_from k xs)

turned : {X : Type 0} (k : ℕ) (xs : List X) → IsPermutation (downs (k + length xs)) (downs k ++ ups (suc k) xs)
turned k [] = let e : k + 0 ≡ k = omega arith in rw (append-nil (downs k), e) (IsPermutation-refl _)
turned k (x ∷ xs) =
    let e : suc k + length xs ≡ k + suc (length xs) = omega arith in
    let f : suc (suc k) ≡ suc k + 1 = omega arith in
    let more = turned (suc k) xs in
    let back = IsPermutation-sym _ _ (IsPermutation-middle (downs k) (out (suc k)) (ups (suc k + 1) xs)) in
    IsPermutation-trans _ _ _ (subst (λ n. IsPermutation (downs n) (out (suc k) ∷ (downs k ++ ups (suc k + 1) xs))) e (subst (λ n. IsPermutation (downs (suc k + length xs)) (out (suc k) ∷ (downs k ++ ups n xs))) f more)) back

first_down : (n : ℕ) → take 1 (map (λ (o : Output). o.1) (downs n)) ≡ option_to_list (last_of n)
first_down zero = refl
first_down (suc n) = refl

-- ---- the answer

module _ (p : ProjectTable) (text : List ℕ) (fits : IsLast p text) (old new : State) (world : World) (s : Refines old.now world) (in_p : IsTableOf p world.version) where
  abbrev table : Table
  table = table_of s.trees p

  abbrev seen : Row → Output
  seen = pair table.tree [] (col 1 0 ∷ []) 0 true (lit (Int (pos 1))) []

  -- the last of the places of a list whose rows these are, in a table of which the first column is the key
  pub last_found : {X : Type 0} → query_by (table_name p) table (last_asked text) true ≡ sorted table.tree [] (col 1 0 ∷ []) 0 true (lit (Int (pos 1))) [] → (stored : ℕ × X → Row) → ((q : ℕ × X) → column (stored q) 0 ≡ number q.0) → (xs : List X) → old.now.trees table.tree ≡ map stored (enumerate_from 1 xs) → (rows : List Row) → Shown text [] old new rows → rows ≡ option_to_list (last_place xs)
  last_found keyed stored numbered xs are rows h =
      let has = parts_there old.now world s p in_p in
      let answers = shown_answers text [] old new _ _ _ (compiles_by old.now.schema (table_name p) has.0 table has.1 (last_asked text) true (fits (s.trees p))) rows h in
      let sure : Answers old.now (alone (sorted table.tree [] (col 1 0 ∷ []) 0 true (lit (Int (pos 1))) [])) [] rows = subst (λ query. Answers old.now (alone query) [] rows) keyed answers in
      let listed : ups 1 xs ≡ map seen (old.now.trees table.tree) =
      (λ i. map (λ q. (sym (numbered q) i ∷ [], sym (numbered q) i ∷ [])) (enumerate_from 1 xs)) ∙ sym (map-map seen stored (enumerate_from 1 xs)) ∙ ap (map seen) (sym are) in
      let all : IsPermutation (downs (length xs)) (ups 1 xs) = let e : 0 + length xs ≡ length xs = omega arith in subst (λ n. IsPermutation (downs n) (ups 1 xs)) e (turned 0 xs) in
      let same : IsPermutation (downs (length xs)) (map seen (filter (passing table.tree [] (col 1 0 ∷ []) 0 true (lit (Int (pos 1))) []) (old.now.trees table.tree))) =
      subst (λ rs. IsPermutation (downs (length xs)) (map seen rs)) (sym (no_test (old.now.trees table.tree))) (subst (IsPermutation (downs (length xs))) listed all) in
      sure_sorted table.tree [] (col 1 0 ∷ []) 0 true (lit (Int (pos 1))) [] old.now rows (downs (length xs)) has.1.low (fall (length xs)) same sure.answer ∙ first_down (length xs)

-- ---- the last grant, and the last archived workunit

abbrev pub grant_text : List ℕ
grant_text = SELECT_LAST_GRANT.now

pub grant_fits : IsLast the_table.Grant grant_text
unfolding everything
grant_fits tree = record { shown = refl; tests = refl; strict = refl; order = refl; height = (0, tt); few = omega arith; limit = λ schema. refl; read = refl; typed = refl }

abbrev pub archived_text : List ℕ
archived_text = SELECT_LAST_ARCHIVED.now

pub archived_fits : IsLast the_table.Archived archived_text
unfolding everything
archived_fits tree = record { shown = refl; tests = refl; strict = refl; order = refl; height = (0, tt); few = omega arith; limit = λ schema. refl; read = refl; typed = refl }

module _ (old new : State) (world : World) (s : Refines old.now world) (rows : List Row) where
  pub grant_found : Shown grant_text [] old new rows → rows ≡ option_to_list (last_grant world)
  grant_found = last_found the_table.Grant grant_text grant_fits old new world s tt refl stored_grant (λ q. refl) world.grants s.rows.grants.same rows

  pub archived_found : Shown archived_text [] old new rows → rows ≡ option_to_list (last_archived world)
  archived_found = last_found the_table.Archived archived_text archived_fits old new world s tt refl stored_archived (λ q. refl) world.archived s.rows.archived.same rows
