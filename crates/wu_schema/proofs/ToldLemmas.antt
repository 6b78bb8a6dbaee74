-- Which errors a SELECT may answer, where it compiles and its parameters fit.
use Rattle.wu_schema.proofs.Words.{Compiled, Error, FailsToQuery, FailsToShow, HasTable, IsFailure, IsNotRun, IsSome, List, Name, None, Parsed, Query, RefusesQuery, Row, State, StoreError, Term, Trees, [], accepts_program, append-nil, arith, fault_of, inl, inr, length, refl, store_error, subst, sym, true, with_command, ℕ, ◌∙◌, ◌∷◌, ◌≡◌, ◌≤◌}
use Rattle.sqlite.specs.Program.{ProgramOverflows}
use Rattle.sqlite.specs.Command.TheVariants.{Select}
use Rattle.sqlite_trees.specs.declared.error.StoreError.TheVariants as kind
use Rattle.sqlite.specs.Clock.{timed}
use Rattle.sqlite.specs.Listing.{IsSourceOf}
use Rattle.sqlite.specs.State.{Fails, IsNoStatement}
use Rattle.sqlite_draft.specs.Query.{aggregate_of}
use Rattle.sqlite_rules.proofs.ListLemmas.{any_has}
use Rattle.sqlite_sql.specs.Group.{value_over}
use Rattle.wu_schema.proofs.CountTexts.{CountFits, Counted, IsCountTyped, count_names, count_parsed, count_query, count_rows, counted_accepted, counted_compiles}
use Rattle.wu_schema.proofs.QueryLemmas.{plain_query, alone}
use Rattle.sqlite_schema.specs.declared.schema.Table.{Table}
use Rattle.wu_schema.proofs.SelectLemmas.{Asked, Fits, IsTyped, parsed_of, query_of, names_of, tests_of, terms_of, compiles, accepts_is}
use Rattle.wu_schema.proofs.SelectLemmas.{CompilesTo}
use Rattle.wu_schema.proofs.ReadLemmas.{same_ok}

-- a failure of the store is one of memory, disk or size
pub store_told : (cause : StoreError) → IsFailure (fault_of (store_error cause))
store_told kind.OutOfMemory = inl refl
store_told _ = inr refl

pub failed_told : (old new : State) (big : Type 0) (e : Error) → Fails old new big e → IsFailure (fault_of e)
failed_told old new big e h = subst (λ x. IsFailure (fault_of x)) (sym h.1) (store_told h.0)

-- a query on one table, with no sums
pub never_over : (tree : ℕ) (q : Query) (tests shows : List Term) (db : Trees) (params : Row) → q.group ≡ None → q.from ≡ (plain_query tree tests shows).from → ¬ ProgramOverflows db params [] [] q
never_over tree q tests shows db params none from (inl sums) = absurd (rw none at sums)
never_over tree q tests shows db params none from (inr folds) = absurd (let h = rw from at folds in h.4)

module _ (text : List ℕ) (params : Row) (old new : State) (p : Parsed) (q : Query) (names : List Name) (it : CompilesTo old.now.schema text p (Select (alone q) names)) (whole : length text ≤ p.tail) (given : length params ≡ length p.names)
    (accepted : accepts_program old.now.schema [] q params ≡ true) (never : ¬ ProgramOverflows old.now.trees params [] [] q) (unlimited : old.step_limit ≡ None) where
  abbrev plan : Compiled
  plan = with_command p ([], (Select (alone q) names, None))

  no_statement : (e : Error) → ¬ IsNoStatement old text params e
  no_statement e (inl h) = absurd (let no = sym it.known ∙ h.1 in cc)
  no_statement e (inr h) =
      let same : h.0 ≡ plan = same_ok (sym h.1 ∙ it.known) in
      elim h.2 [
        | inl longer ↦ absurd (longer.0 (subst (λ (c : Compiled). length text ≤ c.tail) (sym same) whole))
        | inr (inl other) ↦ absurd (other.0 (subst (λ (c : Compiled). length params ≡ length c.names) (sym same) given))
        | inr (inr clock) ↦ absurd (clock.0 (subst (λ (c : Compiled). c.formats ≡ []) (sym same) refl))
      ]

  never_refused : (e : Error) → ¬ RefusesQuery old.step_limit old.now (alone q) params e
  never_refused e (inl typed) = absurd (let no = sym accepted ∙ typed.1 in cc)
  never_refused e (inr (inl over)) = never over.1
  never_refused e (inr (inr limited)) = absurd (let some = subst IsSome unlimited limited.1 in cc)

  pub query_told : (e : Error) → FailsToQuery text params old new e → IsFailure (fault_of e)
  unfolding FailsToQuery IsNotRun
  query_told e (inl (inl none)) = absurd (no_statement e none.0)
  query_told e (inl (inr failed)) = failed_told old new ⊥ e failed
  query_told e (inr h) =
      let same : h.0 ≡ plan = same_ok (sym h.1.is ∙ it.known) in
      let shown = subst (λ (c : Compiled). FailsToShow old new text c (timed params c.formats h.1.now) e c.returning) same h.2 in
      let db : shown.0 ≡ old.now = subst (λ b. IsSourceOf b old.now shown.0) it.unlisted shown.1 in
      absurd (never_refused e (subst (λ d. RefusesQuery old.step_limit d (alone q) params e) db (rw (append-nil params) at shown.2)))

module _ (title : Name) (at : ℕ) (table : Table) (q : Asked) (fits : Fits title table q) (old new : State) (has : HasTable old.now.schema title at table) (params : Row) (e : Error) where
  pub asked_told : length params ≡ length q.parameters → IsTyped title table q params → old.step_limit ≡ None → FailsToQuery q.text params old new e → IsFailure (fault_of e)
  asked_told given typed unlimited =
      query_told q.text params old new (parsed_of title table q) (query_of title table q) (names_of title table q) (compiles old.now.schema title at table has q fits) (omega arith) given
      (accepts_is old.now.schema title at table has q fits params typed) (never_over table.tree (query_of title table q) (tests_of title table q) (terms_of title table q) old.now.trees params refl refl) unlimited e

-- counts are no sums
never_counted : (title : Name) (table : Table) (q : Counted) (db : Trees) (params : Row) → ¬ ProgramOverflows db params [] [] (count_query title table q)
never_counted title table q db params (inl sums) =
    let group = any_has _ sums.0 sums.2 in
    let sum = any_has _ (aggregate_of count_rows ∷ []) group.2 in
    absurd (elim sum.1 [ inl same ↦ (let over = subst (λ a. value_over group.0 a ≡ None) same sum.2 in cc) | inr none ↦ none ])
never_counted title table q db params (inr folds) = absurd folds.4

module _ (title : Name) (at : ℕ) (table : Table) (q : Counted) (fits : CountFits title table q) (old new : State) (has : HasTable old.now.schema title at table) (params : Row) (e : Error) where
  pub counted_told : length params ≡ length q.parameters → IsCountTyped title table q params → old.step_limit ≡ None → FailsToQuery q.text params old new e → IsFailure (fault_of e)
  counted_told given typed unlimited =
      query_told q.text params old new (count_parsed title table q) (count_query title table q) count_names (counted_compiles old.now.schema title at table has q fits) (omega arith) given
      (counted_accepted old.now.schema title at table has q fits params typed) (never_counted title table q old.now.trees params) unlimited e
