-- What the SELECTs without an order answer of the world that the tables stand for.
use Rattle.wu_schema.proofs.Words.{Answers, Archived, Binary, Bool, Import, ImportKind, IsAscending, IsPermutation, IsPermutation-filter, IsPermutation-map, IsPermutation-trans, List, None, Option, Row, Shown, Some, Refines, State, Table, Text, Workunit, World, [], and_from, and_parts, ap, arith, bytes_eq, cases_Bool, codes, column, cond, drop, enumerate_from, eq-eqb, eqb-true, equal, eval_all, false, false_from_ne_true, filter, filter-map, find, holds, import_cells, import_kind_code, inl, inr, is_import, length, length-map, length_permutation, list_all, list_any, map, map-map, not, number, one_permutation, option_map, option_to_list, project_at, refl, stored_archived, stored_workunit, subst, suc, sym, true, workunit_row, ℕ, ◌&&◌, ◌+◌, ◌==◌, ◌||◌, ◌∙◌, ◌∷◌, ◌≡◌, ◌≤◌, HoldsAll}
use Rattle.wu_store.specs.Answers.{has_name, kept_of, next_row, row_named, row_numbered, was_archived}
use Rattle.wu_schema.specs.Stored.{kept_cells}
use Rattle.wu_schema.proofs.AnswerLemmas.{answers_are, meeting, showing, shown_answers}
use Rattle.wu_store.proofs.EqualLemmas.{text_equal, number_equal}
use Rattle.wu_store.proofs.OnceLemmas.{one_passes}
use Rattle.wu_store.proofs.WorldOnce.{bytes_same, once_named, once_number}
pub use Rattle.wu_store.proofs.WorldOnce.{once_numbered}
use Rattle.wu_schema.proofs.QueryLemmas.{alone, plain_query}
use Rattle.wu_schema.proofs.RowLemmas.{filter_same, no_rows, one_test}
use Rattle.wu_schema.proofs.Parts.{table_of, parts_there}
use Rattle.wu_schema.specs.declared.table.ProjectTable.{ProjectTable}
use Rattle.wu_schema.specs.declared.table.ProjectTable.TheVariants as the_table
use Rattle.wu_schema.specs.ProjectTables.{IsTableOf, table_at, table_name}
use Rattle.wu_schema.proofs.SelectLemmas.{Asked, Fits, compiles, query_of, tests_of, terms_of}
use Rattle.wu_store.proofs.SelectTexts.{import_asked, import_fits, import_tests, import_shows, workunit_asked, workunit_fits, workunit_tests, named_asked, named_fits, numbered_asked, numbered_fits, numbered_tests, all_shows, archived_asked, archived_fits, next_asked, next_fits, next_shows}

-- a SELECT of a part of the project
module _ (p : ProjectTable) (q : Asked) (fits : (tree : ℕ) → Fits (table_name p) (table_at p tree) q) (old new : State) (world : World) (s : Refines old.now world) (in_p : IsTableOf p world.version) (params : Row) (rows : List Row) where
  abbrev table : Table
  table = table_of s.trees p

  pub asked_answers : Shown q.text params old new rows → Answers old.now (alone (query_of (table_name p) table q)) params rows
  asked_answers h = let has = parts_there old.now world s p in_p in shown_answers q.text params old new _ _ _ (compiles old.now.schema (table_name p) has.0 table has.1 q (fits (s.trees p))) rows h

  -- one with no order: the rows that meet its tests, as it shows them, in some order
  pub asked_rows : query_of (table_name p) table q ≡ plain_query table.tree (tests_of (table_name p) table q) (terms_of (table_name p) table q) → Shown q.text params old new rows
      → IsPermutation (showing (terms_of (table_name p) table q) params (meeting (tests_of (table_name p) table q) params (old.now.trees table.tree))) rows
  asked_rows plain h =
      answers_are table.tree (tests_of (table_name p) table q) (terms_of (table_name p) table q) params old.now rows (parts_there old.now world s p in_p).1.low (subst (λ query. Answers old.now (alone query) params rows) plain (asked_answers h))

-- ---- lists

-- rows that are stored for some values: those that pass are stored for those that do
pub kept_mapped : {X : Type 0} (p : Row → Bool) (q : X → Bool) (f : X → Row) (xs : List X) → ((x : X) → p (f x) ≡ q x) → filter p (map f xs) ≡ map f (filter q xs)
kept_mapped p q f xs same = filter-map p f xs ∙ ap (map f) (filter_same _ q xs (λ x has. same x))

-- where the cells behind the rowids are those of some values, in some order: what is shown of the rows that pass is what is
-- shown of the values that do
pub cells_shown : {X : Type 0} (cells row : X → Row) (q : X → Bool) (kept : Row → Bool) (shown : Row → Row) (p : Row → Bool) (shows : Row → Row) → ((r : Row) → p r ≡ kept (drop 1 r)) → ((r : Row) → shows r ≡ shown (drop 1 r))
    → ((x : X) → kept (cells x) ≡ q x) → ((x : X) → shown (cells x) ≡ row x) → (xs : List X) (rows : List Row) → HoldsAll rows (map cells xs) → (answer : List Row) → IsPermutation (map shows (filter p rows)) answer → IsPermutation (map row (filter q xs)) answer
cells_shown cells row q kept shown p shows tests seen passes is xs rows h answer found =
    let behind : map shows (filter p rows) ≡ map shown (filter kept (map (drop 1) rows)) =
    (λ i. map (λ r. seen r i) (filter (λ r. tests r i) rows)) ∙ sym (map-map shown (drop 1) (filter (λ r. kept (drop 1 r)) rows)) ∙ ap (map shown) (sym (filter-map kept (drop 1) rows)) in
    let listed : map shown (filter kept (map cells xs)) ≡ map row (filter q xs) = ap (map shown) (kept_mapped kept q cells xs passes) ∙ map-map shown cells (filter q xs) ∙ (λ i. map (λ x. is x i) (filter q xs)) in
    let permuted = IsPermutation-map shown _ _ (IsPermutation-filter kept (map cells xs) (map (drop 1) rows) h.same) in
    subst (λ rs. IsPermutation rs answer) listed (IsPermutation-trans _ _ _ permuted (subst (λ rs. IsPermutation rs answer) behind found))

any_kept : {X : Type 0} (q : X → Bool) (xs : List X) → not (length (filter q xs) == 0) ≡ list_any q xs
any_kept q [] = refl
any_kept q (x ∷ xs) = go (q x) (any_kept q xs)
  where
    some : (n : ℕ) → (suc n == 0) ≡ false
    some n = false_from_ne_true _ (λ h. let e = eqb-true (suc n) 0 h in omega (arith, e))

    go : (b : Bool) → not (length (filter q xs) == 0) ≡ list_any q xs → not (length (cond b (x ∷ filter q xs) (filter q xs)) == 0) ≡ (b || list_any q xs)
    go true again = ap not (some (length (filter q xs)))
    go false again = again

-- the answer has a row exactly where a value passes
any_answer : {X : Type 0} (p : Row → Bool) (shows : Row → Row) (q : X → Bool) (f : X → Row) (xs : List X) (rows answer : List Row) → rows ≡ map f xs → ((x : X) → p (f x) ≡ q x) → IsPermutation (map shows (filter p rows)) answer → not (length answer == 0) ≡ list_any q xs
any_answer p shows q f xs rows answer stored same found =
    ap (λ n. not (n == 0)) (length_permutation (map shows (filter p rows)) answer found ∙ length-map (filter p rows) shows ∙ ap (λ rs. length (filter p rs)) stored ∙ ap (λ rs. length rs) (kept_mapped p q f xs same) ∙ length-map (filter q xs) f) ∙ any_kept q xs

-- an order of at most one is that one
only_answer : {X : Type 0} (f : X → Row) (xs : List X) (answer : List Row) → length xs ≤ 1 → IsPermutation (map f xs) answer → answer ≡ map f xs
only_answer f [] answer few same = no_rows answer (length_permutation [] answer same)
only_answer f (x ∷ []) answer few same = one_permutation (f x) answer same
only_answer f (x ∷ y ∷ xs) answer few same = absurd (omega (arith, few))

none_left : {X : Type 0} (xs : List X) → length xs ≡ 0 → xs ≡ []
none_left [] h = refl
none_left (x ∷ xs) h = absurd (omega (arith, h))

pub find_only : {X : Type 0} (q : X → Bool) (xs : List X) → length (filter q xs) ≤ 1 → filter q xs ≡ option_to_list (find q xs)
find_only q [] few = refl
find_only q (x ∷ xs) few = elim (cases_Bool (q x)) [
  | inl on ↦ let rest : filter q xs ≡ [] = none_left (filter q xs) (omega (arith, rw on at few)) in rw (on, rest) refl
  | inr off ↦ rw off (find_only q xs (rw off at few))
]

-- of things of which at most one passes, what is shown of it
pub only_shown : {X : Type 0} (row : X → Row) (q : X → Bool) (xs : List X) (rows : List Row) → length (filter q xs) ≤ 1 → IsPermutation (map row (filter q xs)) rows → rows ≡ option_to_list (option_map row (find q xs))
only_shown {X} row q xs rows once found = only_answer row (filter q xs) rows once found ∙ ap (map row) (find_only q xs once) ∙ listed (find q xs)
  where
    listed : (o : Option X) → map row (option_to_list o) ≡ option_to_list (option_map row o)
    listed None = refl
    listed (Some x) = refl

-- the row of the one thing that passes a test
pub one_row : {X : Type 0} (keeps row : X → Row) (q : X → Bool) (p : Row → Bool) (shows : Row → Row) (xs : List X) (stored rows : List Row) → stored ≡ map keeps xs → length (filter q xs) ≤ 1 → ((x : X) → p (keeps x) ≡ q x)
    → ((x : X) → shows (keeps x) ≡ row x) → IsPermutation (map shows (filter p stored)) rows → rows ≡ option_to_list (option_map row (find q xs))
one_row keeps row q p shows xs stored rows are once same shown found =
    let kept : filter p stored ≡ map keeps (filter q xs) = ap (filter p) are ∙ kept_mapped p q keeps xs same in
    let seen : map shows (filter p stored) ≡ map row (filter q xs) = ap (map shows) kept ∙ map-map shows keeps (filter q xs) ∙ (λ i. map (λ x. shown x i) (filter q xs)) in
    only_shown row q xs rows once (subst (λ rs. IsPermutation rs rows) seen found)

-- ---- the next number

module _ (old new : State) (world : World) (s : Refines old.now world) where
  next_is : (rows : List Row) → Answers old.now (alone (query_of (codes "project") (project_at (s.trees the_table.Project)) next_asked)) [] rows → rows ≡ next_row world ∷ []
  next_is rows h =
      let all = answers_are (s.trees the_table.Project) [] next_shows [] old.now rows (s.tables.each the_table.Project tt).1.low h in
      one_permutation _ rows (subst (λ rs. IsPermutation (showing next_shows [] (meeting [] [] rs)) rows) s.rows.project all)

  pub next_found : (rows : List Row) → Shown next_asked.text [] old new rows → rows ≡ option_to_list (Some (next_row world))
  next_found rows h = next_is rows (asked_answers the_table.Project next_asked next_fits old new world s tt [] rows h)

-- ---- by name

any_numbered : (name : List ℕ) (n : ℕ) (xs : List Archived) → list_any (λ (p : ℕ × Archived). bytes_eq p.1.name name) (enumerate_from n xs) ≡ list_any (λ (a : Archived). bytes_eq a.name name) xs
any_numbered name n [] = refl
any_numbered name n (x ∷ xs) = ap (λ b. bytes_eq x.name name || b) (any_numbered name (n + 1) xs)

module _ (old new : State) (world : World) (s : Refines old.now world) (name : List ℕ) (rows : List Row) where
  pub workunit_found : Shown workunit_asked.text (Text name ∷ []) old new rows → not (length rows == 0) ≡ has_name name world
  workunit_found h =
      any_answer _ _ (λ (w : Workunit). bytes_eq w.name name) stored_workunit world.workunits _ rows s.rows.workunits.same (λ w. one_test _ ∙ text_equal w.name name) (asked_rows the_table.Workunit workunit_asked workunit_fits old new world s tt (Text name ∷ []) rows refl h)

  pub archived_found : Shown archived_asked.text (Text name ∷ []) old new rows → not (length rows == 0) ≡ was_archived name world
  archived_found h =
      any_answer _ _ (λ (p : ℕ × Archived). bytes_eq p.1.name name) stored_archived (enumerate_from 1 world.archived) _ rows s.rows.archived.same (λ p. one_test _ ∙ text_equal p.1.name name) (asked_rows the_table.Archived archived_asked archived_fits old new world s tt (Text name ∷ []) rows refl h)
      ∙ any_numbered name 1 world.archived

  -- the row of the one workunit of the name
  pub named_found : Shown named_asked.text (Text name ∷ []) old new rows → rows ≡ option_to_list (row_named name world)
  named_found h =
      one_row stored_workunit workunit_row (λ (w : Workunit). bytes_eq w.name name) (λ r. list_all (holds ((Text name ∷ []) ∷ r ∷ [])) workunit_tests) (λ r. eval_all all_shows ((Text name ∷ []) ∷ r ∷ [])) world.workunits _ rows s.rows.workunits.same (once_named old.now world s name)
      (λ w. one_test _ ∙ text_equal w.name name) (λ w. refl) (asked_rows the_table.Workunit named_asked named_fits old new world s tt (Text name ∷ []) rows refl h)

-- ---- by number

module _ (old new : State) (world : World) (s : Refines old.now world) (n : ℕ) (rows : List Row) where
  -- the row of the one workunit of the number
  pub numbered_found : Shown numbered_asked.text (number n ∷ []) old new rows → rows ≡ option_to_list (row_numbered n world)
  numbered_found h =
      one_row stored_workunit workunit_row (λ (w : Workunit). w.number == n) (λ r. list_all (holds ((number n ∷ []) ∷ r ∷ [])) numbered_tests) (λ r. eval_all all_shows ((number n ∷ []) ∷ r ∷ [])) world.workunits _ rows s.rows.workunits.same
      (once_number old.now world s n) (λ w. one_test _ ∙ number_equal w.number n) (λ w. refl)
      (asked_rows the_table.Workunit numbered_asked numbered_fits old new world s tt (number n ∷ []) rows refl h)

-- ---- an import

abbrev is_kept : ℕ → List ℕ → Row → Bool
is_kept kind name cells = equal Binary (column cells 0) (number kind) && (equal Binary (column cells 1) (Text name) && true)

abbrev kept_in : Row → Row
kept_in cells = column cells 2 ∷ column cells 3 ∷ column cells 4 ∷ column cells 5 ∷ []

tests_cells : (kind : ℕ) (name : List ℕ) (r : Row) → list_all (holds ((number kind ∷ Text name ∷ []) ∷ r ∷ [])) import_tests ≡ is_kept kind name (drop 1 r)
tests_cells kind name [] = refl
tests_cells kind name (v ∷ r) = refl

shows_cells : (kind : ℕ) (name : List ℕ) (r : Row) → eval_all import_shows ((number kind ∷ Text name ∷ []) ∷ r ∷ []) ≡ kept_in (drop 1 r)
shows_cells kind name [] = refl
shows_cells kind name (v ∷ r) = refl

tested_import : (kind : ImportKind) (name : List ℕ) (a : Import) → is_kept (import_kind_code kind) name (import_cells a) ≡ is_import kind name a
tested_import kind name a = ap (λ b. b && (equal Binary (Text a.name) (Text name) && true)) (number_equal (import_kind_code a.kind) (import_kind_code kind))
    ∙ ap (λ b. (import_kind_code a.kind == import_kind_code kind) && b) (one_test _ ∙ text_equal a.name name)

-- of imports that stand once, at most one has a kind and a name
at_most_one : (kind : ImportKind) (name : List ℕ) (imports : List Import) → IsAscending (λ (a b : Import). is_import a.kind a.name b ≡ false) imports → length (filter (is_import kind name) imports) ≤ 1
at_most_one kind name imports once = one_passes (is_import kind name) (λ a b. is_import a.kind a.name b ≡ false) imports (λ a b has_a has_b apart p q.
    let one = and_parts _ _ p in
    let two = and_parts _ _ q in
    let same : is_import a.kind a.name b ≡ true = and_from _ _ (eq-eqb _ _ (eqb-true _ _ two.0 ∙ sym (eqb-true _ _ one.0))) (bytes_same b.name name a.name two.1 one.1) in
    absurd (let e = sym same ∙ apart in cc)) once

module _ (old new : State) (world : World) (s : Refines old.now world) (kind : ImportKind) (name : List ℕ) (rows : List Row) where
  pub import_found : Shown import_asked.text (number (import_kind_code kind) ∷ Text name ∷ []) old new rows → rows ≡ kept_of kind name world
  import_found h =
      let code = import_kind_code kind in
      let all = asked_rows the_table.Import import_asked import_fits old new world s tt (number code ∷ Text name ∷ []) rows refl h in
      only_answer kept_cells (filter (is_import kind name) world.imports) rows (at_most_one kind name world.imports s.rows.imported_once)
      (cells_shown import_cells kept_cells (is_import kind name) (is_kept code name) kept_in _ _ (tests_cells code name) (shows_cells code name) (tested_import kind name) (λ a. refl) world.imports (old.now.trees (s.trees the_table.Import)) s.rows.imports rows all)
