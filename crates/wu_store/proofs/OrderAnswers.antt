-- What a SELECT in the order of the key answers.
use Rattle.wu_schema.proofs.Words.{drop, filter-map, Binary, Bool, Database, Int, IsAnswerAs, IsAscending, IsPermutation, IsPermutation-refl, IsPermutation-trans, IsTable, Less, List, Null, Ordering, Output, Query, Row, Shown, Some, Refines, State, Term, Workunit, World, [], all_from, all_has, ap, col, column, cond, eval_all, false, filter, find, flat_map, has_filtered, has_mapped, holds, if◌then◌else◌, list_all, lit, map, map-map, nat_le, nat_lt, number, option_map, option_to_list, output, overlay, pos, refl, rowid, stored_workunit, subst, sym, take, true, value_cmp, workunit_row, ℕ, ◌++◌, ◌^◌, ◌∙◌, ◌∷◌, ◌≡◌}
use Rattle.std.specs.Ordering.{on}
use Rattle.sqlite_value.specs.Keys.{directed}
use Rattle.sqlite_value.specs.declared.keys.Key.{Key}
use Rattle.sqlite_sql.proofs.QueryLemmas.{output_cmp_total}
use Rattle.sqlite_value.proofs.OrderLemmas.{then-Equal}
use Rattle.sqlite.specs.Query.{IsSureAnswer, output_cmp, page}
use Rattle.wu_store.specs.Answers.{first_above}
use Rattle.wu_store.proofs.EqualLemmas.{number_above}
use Rattle.wu_schema.proofs.QueryLemmas.{plain_query}
use Rattle.wu_store.proofs.SelectTexts.{all_shows, above_asked, above_fits, above_tests}
use Rattle.wu_schema.specs.declared.table.ProjectTable.TheVariants as the_table
use Rattle.wu_store.proofs.ReadAnswers.{asked_answers}
use Rattle.wu_schema.proofs.RowLemmas.{filter_same, one_test}
use Rattle.wu_store.proofs.OneOrder.{one_order}

-- the order in which a column rises, or falls
abbrev pub in_order : Bool → Output → Output → Ordering
in_order falls = on (λ (o : Output). column o.0 0) (directed falls value_cmp)

abbrev pub by_key : Output → Output → Ordering
by_key = in_order false

module _ (tree : ℕ) (test shows : List Term) (params : Row) where
  abbrev pub passing_row : Row → Bool
  passing_row r = list_all (holds (params ∷ r ∷ [])) test

  -- in any order
  module _ (order : List (Term × Key)) (limit : Term) where
    abbrev pub ordered : Query
    ordered = record (plain_query tree test shows) { order = order; limit = limit }

    -- what is sorted by, and what is shown
    abbrev pub ordered_pair : Row → Output
    ordered_pair r = output ordered (params ∷ r ∷ [])

    found_pairs : (rows : List Row) → map (output ordered) (flat_map (λ r. if passing_row r then (params ∷ r ∷ []) ∷ [] else []) rows) ≡ map ordered_pair (filter passing_row rows)
    found_pairs [] = refl
    found_pairs (r ∷ rows) = elim (passing_row r) as
        (λ b. map (output ordered) ((if b then (params ∷ r ∷ []) ∷ [] else []) ++ flat_map (λ s. if passing_row s then (params ∷ s ∷ []) ∷ [] else []) rows) ≡ map ordered_pair (cond b (r ∷ filter passing_row rows) (filter passing_row rows))) [
          | true ↦ ap (λ all. ordered_pair r ∷ all) (found_pairs rows)
          | false ↦ found_pairs rows
        ]

    -- what is shown of the rows that pass, in the order in which these rise, as far as the limit goes
    pub sure_ordered : (db : Database) (rows : List Row) (os : List Output) → nat_le (2 ^ 31) tree ≡ false → IsAscending (λ a b. output_cmp ordered a b ≡ Less) os → IsPermutation os (map ordered_pair (filter passing_row (db.trees tree)))
        → IsSureAnswer ordered (overlay db.trees []) params rows → rows ≡ page ordered params (map (λ (o : Output). o.1) os)
    sure_ordered db rows os low up same h =
        let a : IsAnswerAs Null ordered (overlay db.trees []) params rows = h Null in
        let base : overlay db.trees [] tree ≡ db.trees tree = rw low in
        let kept : a.kept ≡ map ordered_pair (filter passing_row (db.trees tree)) = a.distinct ∙ ap (map (output ordered)) a.grouped ∙ found_pairs (overlay db.trees [] tree) ∙ ap (λ rs. map ordered_pair (filter passing_row rs)) base in
        let sorts : a.ordered ≡ os = one_order (output_cmp ordered) (output_cmp_total ordered) os a.ordered up a.sorted (IsPermutation-trans _ _ _ same (subst (λ k. IsPermutation k a.ordered) kept a.same)) in
        a.shown ∙ ap (λ os. page ordered params (map (λ (o : Output). o.1) os)) sorts

-- tests and pairs that only look at what is behind the rowid
pub behind_rowid : (passes cells_pass : Row → Bool) (pair cell_pair : Row → Output) → ((r : Row) → passes r ≡ cells_pass (drop 1 r)) → ((r : Row) → pair r ≡ cell_pair (drop 1 r)) → (rows : List Row)
    → map pair (filter passes rows) ≡ map cell_pair (filter cells_pass (map (drop 1) rows))
behind_rowid passes cells_pass pair cell_pair tested paired rows =
    ap (map pair) (filter_same passes (λ r. cells_pass (drop 1 r)) rows (λ r has. tested r)) ∙ (λ i. map (λ r. paired r i) (filter (λ r. cells_pass (drop 1 r)) rows))
    ∙ sym (map-map cell_pair (drop 1) (filter (λ r. cells_pass (drop 1 r)) rows)) ∙ ap (map cell_pair) (sym (filter-map cells_pass (drop 1) rows))

-- ---- in the order of one column

module _ (tree : ℕ) (test shows : List Term) (place : ℕ) (falls : Bool) (limit : Term) (params : Row) where
  abbrev pub by_column : List (Term × Key)
  by_column = (col 1 place, record { collation = Binary; descending = falls }) ∷ []

  abbrev pub sorted : Query
  sorted = ordered tree test shows params by_column limit

  abbrev shown : Row → Row
  shown r = eval_all shows (params ∷ r ∷ [])

  -- what is sorted by, and what is shown
  abbrev pub pair : Row → Output
  pair r = (column r place ∷ [], shown r)

  abbrev pub passing : Row → Bool
  passing = passing_row tree test shows params

  pub same_cmp : in_order falls ≡ output_cmp sorted
  same_cmp = λ i a b. sym (then-Equal (in_order falls a b)) i

  pub sure_sorted : (db : Database) (rows : List Row) (os : List Output) → nat_le (2 ^ 31) tree ≡ false → IsAscending (λ a b. in_order falls a b ≡ Less) os → IsPermutation os (map pair (filter passing (db.trees tree)))
      → IsSureAnswer sorted (overlay db.trees []) params rows → rows ≡ page sorted params (map (λ (o : Output). o.1) os)
  sure_sorted db rows os low up same h = sure_ordered tree test shows params by_column limit db rows os low (subst (λ c. IsAscending (λ a b. c a b ≡ Less) os) same_cmp up) same h

-- ---- in the order of the key

module _ (tree : ℕ) (test shows : List Term) (limit : Term) (params : Row) where
  abbrev keyed : Row → Output
  keyed = pair tree test shows 0 false limit params

  kept_rise : (p : Row → Bool) (rows : List Row) → IsTable rows → IsAscending (λ a b. by_key a b ≡ Less) (map keyed (filter p rows))
  kept_rise p [] up = tt
  kept_rise p (r ∷ rows) up = elim (p r) as (λ b. IsAscending (λ a b. by_key a b ≡ Less) (map keyed (cond b (r ∷ filter p rows) (filter p rows)))) [
    | true ↦ (
      all_from (λ b. by_key (keyed r) b ≡ Less) (map keyed (filter p rows)) (λ o has.
          let it = has_mapped keyed (filter p rows) o has in
          subst (λ b. by_key (keyed r) b ≡ Less) (sym it.2) (all_has (λ s. value_cmp (rowid r) (rowid s) ≡ Less) rows it.0 up.0 (has_filtered p rows it.0 it.1).0)),
      kept_rise p rows up.1,
    )
    | false ↦ kept_rise p rows up.1
  ]

  abbrev kept_in : List Row → List Row
  kept_in = filter (passing tree test shows 0 false limit params)

  -- what is shown of the rows that pass, in the order of their keys, as far as the limit goes
  pub sure_in_order : (db : Database) (rows : List Row) → nat_le (2 ^ 31) tree ≡ false → IsTable (db.trees tree) → IsSureAnswer (sorted tree test shows 0 false limit params) (overlay db.trees []) params rows
      → rows ≡ page (sorted tree test shows 0 false limit params) params (map (shown tree test shows 0 false limit params) (kept_in (db.trees tree)))
  sure_in_order db rows low up h =
      sure_sorted tree test shows 0 false limit params db rows (map keyed (kept_in (db.trees tree))) low (kept_rise (passing tree test shows 0 false limit params) (db.trees tree) up) (IsPermutation-refl _) h
      ∙ ap (page (sorted tree test shows 0 false limit params) params) (map-map (λ (o : Output). o.1) keyed (kept_in (db.trees tree)))

-- ---- the first above a number

module _ (n : ℕ) where
  abbrev exceeds : Row → Bool
  exceeds r = list_all (holds ((number n ∷ []) ∷ r ∷ [])) above_tests

  abbrev row_shown : Row → Row
  row_shown r = eval_all all_shows ((number n ∷ []) ∷ r ∷ [])

  first_shown : (ws : List Workunit) → take 1 (map row_shown (filter exceeds (map stored_workunit ws))) ≡ option_to_list (option_map workunit_row (find (λ (w : Workunit). nat_lt n w.number) ws))
  first_shown [] = refl
  first_shown (w ∷ ws) =
      ap (λ b. take 1 (map row_shown (cond b (stored_workunit w ∷ filter exceeds (map stored_workunit ws)) (filter exceeds (map stored_workunit ws))))) (one_test _ ∙ number_above w.number n) ∙ go (nat_lt n w.number) (first_shown ws)
    where
      go : (b : Bool) → take 1 (map row_shown (filter exceeds (map stored_workunit ws))) ≡ option_to_list (option_map workunit_row (find (λ (v : Workunit). nat_lt n v.number) ws))
          → take 1 (map row_shown (cond b (stored_workunit w ∷ filter exceeds (map stored_workunit ws)) (filter exceeds (map stored_workunit ws))))
          ≡ option_to_list (option_map workunit_row (cond b (Some w) (find (λ (v : Workunit). nat_lt n v.number) ws)))
      go true again = refl
      go false again = again

module _ (old new : State) (world : World) (s : Refines old.now world) (n : ℕ) where
  pub above_found : (rows : List Row) → Shown above_asked.text (number n ∷ []) old new rows → rows ≡ option_to_list (option_map workunit_row (first_above n world))
  above_found rows h =
      let tree = (s.trees the_table.Workunit) in
      let read = asked_answers the_table.Workunit above_asked above_fits old new world s tt (number n ∷ []) rows h in
      sure_in_order tree above_tests all_shows (lit (Int (pos 1))) (number n ∷ []) old.now rows (s.tables.each the_table.Workunit tt).1.low s.rows.workunits.shaped.0 read.answer ∙ ap (λ rs. take 1 (map (row_shown n) (filter (exceeds n) rs))) s.rows.workunits.same ∙ first_shown n world.workunits
