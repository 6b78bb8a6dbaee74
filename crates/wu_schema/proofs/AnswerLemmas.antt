-- Which rows a query on one table answers.
use Rattle.wu_schema.proofs.Words.{Answers, Name, Parsed, Query, Shown, State, Database, IsAnswerAs, IsPermutation, IsPermutation-map, List, Null, Output, Row, Term, [], ap, cond, eval_all, false, filter, flat_map, holds, if◌then◌else◌, list_all, map, nat_le, output, overlay, refl, subst, sym, true, ℕ, ◌++◌, ◌^◌, ◌∙◌, ◌∷◌, ◌≡◌}
use Rattle.sqlite.specs.Command.TheVariants.{Select}
use Rattle.sqlite.proofs.Callers.{reads_as}
use Rattle.wu_schema.proofs.QueryLemmas.{plain_query, alone}
use Rattle.wu_schema.proofs.SelectLemmas.{CompilesTo}

-- the rows that meet the condition, as the query shows them
abbrev pub meeting : List Term → Row → List Row → List Row
meeting test params = filter (λ r. list_all (holds (params ∷ r ∷ [])) test)

abbrev pub showing : List Term → Row → List Row → List Row
showing project params = map (λ r. eval_all project (params ∷ r ∷ []))

module _ (tree : ℕ) (test project : List Term) (params : Row) where
  scanned : (rows : List Row) → map (λ (o : Output). o.1) (map (output (plain_query tree test project)) (flat_map (λ r. if list_all (holds (params ∷ r ∷ [])) test then (params ∷ r ∷ []) ∷ [] else []) rows)) ≡ showing project params (meeting test params rows)
  scanned [] = refl
  scanned (r ∷ rows) = elim (list_all (holds (params ∷ r ∷ [])) test) as
      (λ b. map (λ (o : Output). o.1) (map (output (plain_query tree test project)) ((if b then (params ∷ r ∷ []) ∷ [] else []) ++ flat_map (λ s. if list_all (holds (params ∷ s ∷ [])) test then (params ∷ s ∷ []) ∷ [] else []) rows)) ≡ showing project params (cond b (r ∷ meeting test params rows) (meeting test params rows))) [
        | true ↦ ap (λ all. eval_all project (params ∷ r ∷ []) ∷ all) (scanned rows)
        | false ↦ scanned rows
      ]

  -- the rows of the answer are those that meet the condition, in some order
  pub answers_are : (db : Database) (rows : List Row) → nat_le (2 ^ 31) tree ≡ false → Answers db (alone (plain_query tree test project)) params rows → IsPermutation (showing project params (meeting test params (db.trees tree))) rows
  answers_are db rows low h =
      let a : IsAnswerAs Null (plain_query tree test project) (overlay db.trees []) params rows = h.answer Null in
      let base : overlay db.trees [] tree ≡ db.trees tree = rw low in
      let all = IsPermutation-map (λ (o : Output). o.1) a.kept a.ordered a.same in
      let first : map (λ (o : Output). o.1) a.kept ≡ showing project params (meeting test params (db.trees tree)) =
      ap (map (λ (o : Output). o.1)) (a.distinct ∙ ap (map (output (plain_query tree test project))) a.grouped) ∙ scanned (overlay db.trees [] tree) ∙ ap (λ rs. showing project params (meeting test params rs)) base in
      subst (λ xs. IsPermutation xs rows) first (subst (IsPermutation (map (λ (o : Output). o.1) a.kept)) (sym a.shown) all)

-- what a SELECT shows, and its first row, are its answers
module _ (text : List ℕ) (params : Row) (old new : State) (p : Parsed) (q : Query) (names : List Name) (it : CompilesTo old.now.schema text p (Select (alone q) names)) where
  pub shown_answers : (rows : List Row) → Shown text params old new rows → Answers old.now (alone q) params rows
  shown_answers rows h = reads_as text params old new old.now.schema refl (Select (alone q) names) it.is it.plain it.unlisted rows h
