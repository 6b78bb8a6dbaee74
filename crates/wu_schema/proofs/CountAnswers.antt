-- What a SELECT answers that counts the rows of a table.
use Rattle.wu_schema.proofs.Words.{Answers, Database, HasTable, IsAnswerAs, IsPermutation, IsPermutation-map, List, Name, Null, Output, Row, Shown, Some, State, Table, Term, [], ap, cond, eval_all, false, filter, flat_map, holds, if◌then◌else◌, length, length-map, length_permutation, list_all, map, nat_le, one_permutation, output, overlay, refl, subst, sym, true, ℕ, ℤ, ◌++◌, ◌^◌, ◌∙◌, ◌∷◌, ◌≡◌, col}
use Rattle.std.specs.List.{AllZip}
use Rattle.std.specs.Prelude.{◌↔◌}
use Rattle.wu_schema.proofs.SelectLemmas.{how, meets}
use Rattle.sqlite_sql.specs.Aggregate.{count}
use Rattle.sqlite_sql.specs.Group.{IsGrouping, IsSummary, Summarizes, value_over}
use Rattle.sqlite_sql.specs.Term.{Env}
use Rattle.sqlite_draft.specs.Query.{aggregate_of, grouping_of}
use Rattle.wu_schema.proofs.CountTexts.{CountFits, Counted, count_grouping, count_query, count_rows, counted_compiles}
use Rattle.wu_schema.proofs.QueryLemmas.{alone}
use Rattle.wu_schema.proofs.AnswerLemmas.{meeting, shown_answers}
use Rattle.wu_schema.specs.Counting.{CountsAll}

-- a row of the table, after the parameters
abbrev seen : Row → Row → Env
seen params r = params ∷ r ∷ []

-- the row of a group: how many it has
abbrev summary_of : List Env → Row
summary_of group = count (length group) ∷ []

counts_group : (group : List Env) (values : Row) → AllZip (λ a v. value_over group a ≡ Some v) (aggregate_of count_rows ∷ []) values → values ≡ count (length group) ∷ []
counts_group group [] zip = absurd zip
counts_group group (v ∷ []) zip = let same : v ≡ count (length (map (λ (env : Env). Null) group)) = let e = zip.0 in cc in ap (λ w. w ∷ []) (same ∙ ap count (length-map group (λ env. Null)))
counts_group group (v ∷ w ∷ more) zip = absurd zip.1

-- the rows that pass, as FROM has them
matched : (test : List Term) (params : Row) (rows : List Row) → flat_map (λ r. if list_all (holds (seen params r)) test then seen params r ∷ [] else []) rows ≡ map (seen params) (meeting test params rows)
matched test params [] = refl
matched test params (r ∷ rows) =
    elim (list_all (holds (seen params r)) test) as
    (λ b. ((if b then seen params r ∷ [] else []) ++ flat_map (λ s. if list_all (holds (seen params s)) test then seen params s ∷ [] else []) rows) ≡ map (seen params) (cond b (r ∷ meeting test params rows) (meeting test params rows))) [
      | true ↦ ap (λ all. seen params r ∷ all) (matched test params rows)
      | false ↦ matched test params rows
    ]

module _ (title : Name) (table : Table) (q : Counted) (params : Row) where
  -- the rows that it counts
  abbrev counted_of : List Row → List Row
  counted_of rows = meeting (map (meets table) q.tests) params rows

  summaries_are : (groups : List (List Env)) (rows : List Row) → AllZip (IsSummary (grouping_of count_grouping)) groups rows → rows ≡ map (summary_of) groups
  summaries_are [] [] zip = refl
  summaries_are [] (r ∷ rows) zip = absurd zip
  summaries_are (g ∷ groups) [] zip = absurd zip
  summaries_are (g ∷ groups) (r ∷ rows) zip =
      let one : r ≡ summary_of g = zip.0.2 ∙ counts_group g zip.0.0 zip.0.1 in
      λ i. one i ∷ summaries_are groups rows zip.1 i

  -- a row of the answer is that of a group
  abbrev shown_of : Row → Row
  shown_of r = eval_all (col 1 0 ∷ []) (seen params r)

  groups_shown : (rows : List Row) → map (λ (o : Output). o.1) (map (output (count_query title table q)) (filter (λ env. true) (map (seen params) rows))) ≡ map shown_of rows
  groups_shown [] = refl
  groups_shown (r ∷ rows) = ap (λ all. shown_of r ∷ all) (groups_shown rows)

  -- the rows of the answer are those of the groups, in some order
  groups_answered : (db : Database) (answer : List Row) → nat_le (2 ^ 31) table.tree ≡ false → Answers db (alone (count_query title table q)) params answer
      → (groups : List (List Env)) × IsGrouping [] [] (map (seen params) (counted_of (db.trees table.tree))) groups × IsPermutation (map shown_of (map (summary_of) groups)) answer
  groups_answered db answer low h =
      let a : IsAnswerAs Null (count_query title table q) (overlay db.trees []) params answer = h.answer Null in
      let all : List Env = flat_map (λ r. if list_all (holds (seen params r)) (map (meets table) q.tests) then seen params r ∷ [] else []) (overlay db.trees [] table.tree) in
      let g : Summarizes (grouping_of count_grouping) params all a.staged = a.grouped in
      let base : overlay db.trees [] table.tree ≡ db.trees table.tree = rw low in
      let is : all ≡ map (seen params) (counted_of (db.trees table.tree)) = matched (map (meets table) q.tests) params (overlay db.trees [] table.tree) ∙ ap (λ rs. map (seen params) (counted_of rs)) base in
      let kept : map (λ (o : Output). o.1) a.kept ≡ map shown_of (map (summary_of) g.groups) =
      ap (map (λ (o : Output). o.1)) (a.distinct ∙ ap (map (output (count_query title table q))) g.having) ∙ groups_shown g.rows ∙ ap (map shown_of) (summaries_are g.groups g.rows g.summaries) in
      let shown = IsPermutation-map (λ (o : Output). o.1) a.kept a.ordered a.same in (
        g.groups,
        subst (λ xs. IsGrouping [] [] xs g.groups) is g.grouping,
        subst (λ xs. IsPermutation xs answer) kept (subst (IsPermutation (map (λ (o : Output). o.1) a.kept)) (sym a.shown) shown),
      )

module _ (title : Name) (table : Table) (q : Counted) (params : Row) (db : Database) (answer : List Row) (low : nat_le (2 ^ 31) table.tree ≡ false) where
  abbrev rows : List Row
  rows = meeting (map (meets table) q.tests) params (db.trees table.tree)

  -- all of them are counted
  counts_all : Answers db (alone (count_query title table q)) params answer → CountsAll rows answer
  counts_all h =
      let it = groups_answered title table q params db answer low h in
      let order = it.1.0 in
      let one : answer ≡ (count (length order) ∷ []) ∷ [] = one_permutation _ answer (subst (λ gs. IsPermutation (map (shown_of title table q params) (map (summary_of) gs)) answer) it.1.2 it.2) in
      record { one = one ∙ ap (λ n. (count n ∷ []) ∷ []) (length_permutation _ order it.1.1 ∙ length-map rows (seen params)) }

-- ---- what such a SELECT shows of the rows that meet its tests

module _ (title : Name) (at : ℕ) (table : Table) (q : Counted) (old new : State) (has : HasTable old.now.schema title at table) (params : Row) (answer : List Row) where
  abbrev kept : List Row
  kept = meeting (map (meets table) q.tests) params (old.now.trees table.tree)

  counted_answers : CountFits title table q → Shown q.text params old new answer → Answers old.now (alone (count_query title table q)) params answer
  counted_answers fits h = shown_answers q.text params old new _ _ _ (counted_compiles old.now.schema title at table has q fits) answer h

  pub all_counted : CountFits title table q → Shown q.text params old new answer → CountsAll kept answer
  all_counted fits h = counts_all title table q params old.now answer has.low (counted_answers fits h)
