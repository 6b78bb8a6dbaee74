-- The questions about whole tables: each text, what it asks for, and what its answer shows of any rows.
use Rattle.wu_schema.proofs.Words.{Answers, Column, Database, Error, FailsToQuery, Fault, Ghosts, HasTables, Held, IfErr, IsFailure, ProjectTrees, Result, Vec, fault_of, false, length, state, HasTable, Int, IsPermutation, IsTable, List, None, Row, Shown, State, Table, Name, [], ap, arith, eval_all, everything, lit, map, negsuc, refl, subst, sym, ℕ, ◌∙◌, ◌∷◌, ◌≡◌}
use Rattle.std.specs.List.{cons_option, enumerate_from}
use Rattle.wu_schema.proofs.AnswerLemmas.{answers_are, shown_answers}
use Rattle.wu_schema.specs.declared.table.ProjectTable.{ProjectTable}
use Rattle.wu_schema.specs.declared.table.ProjectTable.TheVariants as the_table
use Rattle.wu_schema.specs.ProjectTables.{IsTableOf, table_name, table_at}
use Rattle.wu_schema.proofs.QueryLemmas.{alone, plain_query}
use Rattle.wu_schema.proofs.ReadLemmas.{if_err, if_ok}
use Rattle.wu_schema.proofs.RowLemmas.{no_test}
use Rattle.wu_schema.proofs.SelectLemmas.{Asked, Fits, compiles, parsed_of, query_of, select_of, terms_of}
use Rattle.wu_schema.proofs.ToldLemmas.{asked_told}
use Rattle.wu_schema.specs.Asking.{Asks, FailsAll, IsSelect, ServesUnlessFailed, ShowsAll}
use Rattle.wu_schema.specs.Faults.{IsStoreFault}
use Rattle.wu_store.proofs.OrderAnswers.{sorted, sure_in_order}
use Rattle.wu_loader.specs.Asked.{HasArranged, LooksAtTables}
use Rattle.wu_loader.specs.Questions.{question}

-- ---- the law of a question about a whole table

-- all rows, in any order or in that of a column
abbrev whole_table : List ℕ → List ℕ → List ℕ → Asked
whole_table text shown order = record { text = text; parameters = []; shown = shown; tests = []; order = order; limit = None; upto = lit (Int (negsuc 0)) }

module _ (title : Name) (table : Table) (q : Asked) (fits : Fits title table q) (old new : State) (at : ℕ) (has : HasTable old.now.schema title at table) (shows : Row → Row) (same : (r : Row) → eval_all (terms_of title table q) ([] ∷ r ∷ []) ≡ shows r) (rows : List Row) (shown : Shown q.text [] old new rows) where
  answers : Answers old.now (alone (query_of title table q)) [] rows
  answers = shown_answers q.text [] old new _ _ _ (compiles old.now.schema title at table has q fits) rows shown

  -- a question in the order of the key shows exactly the rows of the tree
  pub shows_in_order : query_of title table q ≡ sorted table.tree [] (terms_of title table q) 0 false (lit (Int (negsuc 0))) [] → IsTable (old.now.trees table.tree) → rows ≡ map shows (old.now.trees table.tree)
  shows_in_order ordered up =
      let read = subst (λ query. Answers old.now (alone query) [] rows) ordered answers in
      sure_in_order table.tree [] (terms_of title table q) (lit (Int (negsuc 0))) [] old.now rows has.low up read.answer
      ∙ ap (map (λ r. eval_all (terms_of title table q) ([] ∷ r ∷ []))) (no_test (old.now.trees table.tree)) ∙ (λ i. map (λ r. same r i) (old.now.trees table.tree))

  -- one with no order shows them in some order
  pub shows_in_any_order : query_of title table q ≡ plain_query table.tree [] (terms_of title table q) → IsPermutation (map shows (old.now.trees table.tree)) rows
  shows_in_any_order plain =
      let read = subst (λ query. Answers old.now (alone query) [] rows) plain answers in
      let all = answers_are table.tree [] (terms_of title table q) [] old.now rows has.low read in
      subst (λ rs. IsPermutation rs rows) (ap (map (λ r. eval_all (terms_of title table q) ([] ∷ r ∷ []))) (no_test (old.now.trees table.tree)) ∙ (λ i. map (λ r. same r i) (old.now.trees table.tree))) all

-- ---- what such a question does, and what it says

-- such a question is a SELECT
pub selects : (p : ProjectTable) (q : Asked) → ((tree : ℕ) → Fits (table_name p) (table_at p tree) q) → IsSelect q.text
selects p q fits = record { parsed = parsed_of (table_name p) (table_at p 0) q; select = select_of (table_name p) (table_at p 0) q; read = (fits 0).read; is = refl }

module _ (version : ℕ) (p : ProjectTable) (in_p : IsTableOf p version) (q : Asked) (fits : (tree : ℕ) → Fits (table_name p) (table_at p tree) q) (none : q.parameters ≡ []) where
  module _ {S : Type 0} (g : Ghosts S) (old new : Held S) (given : Row) (same : given ≡ []) where
    abbrev before : State
    before = state g old

    pub told : (trees : ProjectTrees) → HasTables version before.now.schema trees → old.step_limit ≡ None → (fault : Fault) (error : Error) → fault ≡ fault_of error → FailsToQuery q.text given before (state g new) error → IsFailure fault
    told trees has unlimited fault error is failed =
        let there = has.each p in_p in
        subst IsFailure (sym is) (asked_told (table_name p) there.0 _ q (fits _) before (state g new) there.1 [] error (sym (ap (λ ps. length ps) none)) (fits _).typed unlimited (subst (λ ps. FailsToQuery q.text ps before (state g new) error) same failed))

    pub looks_whole : {A : Type 0} (Is : Database → ProjectTrees → List Row → Type 0) → ((trees : ProjectTrees) → HasArranged version before.now trees → (rows : List Row) → Shown q.text [] before (state g new) rows → Is before.now trees rows)
        → (r : Result (Vec Row A) Fault) → (IsSelect q.text → Asks g old new r) → (IsSelect q.text → ServesUnlessFailed g new r) → ShowsAll g old new r q.text given → FailsAll g old new r q.text given → IfErr r IsStoreFault
        → LooksAtTables version g old new r (λ db trees rows. Is db trees rows.items)
    looks_whole Is says r asks opens shows fails store = record {
      asks = asks (selects p q fits);
      opens = opens (selects p q fits);
      says = λ clean trees has. if_ok r _ _ (λ rows h. says trees has rows.items (subst (λ ps. Shown q.text ps before (state g new) rows.items) same h)) (shows clean);
      fault = store;
      answered = λ clean trees has unlimited. if_err r _ _ (λ fault h. told trees has unlimited fault h.0 h.1 h.2) (fails clean);
    }

-- ---- each table

-- all columns, in order of the first if that is the rowid
abbrev pub table_asked : ProjectTable → Asked
table_asked t = whole_table (question t) (map (λ (p : ℕ × Column). p.0) (enumerate_from 0 (table_at t 0).columns)) (cons_option (table_at t 0).key [])

pub table_fits : (t : ProjectTable) (tree : ℕ) → Fits (table_name t) (table_at t tree) (table_asked t)
unfolding everything
table_fits the_table.Project tree = record { shown = refl; tests = refl; strict = refl; order = refl; height = (0, tt); few = omega arith; limit = λ schema. refl; read = refl; typed = refl }
table_fits the_table.Workunit tree = record { shown = refl; tests = refl; strict = refl; order = refl; height = (0, tt); few = omega arith; limit = λ schema. refl; read = refl; typed = refl }
table_fits the_table.Result tree = record { shown = refl; tests = refl; strict = refl; order = refl; height = (0, tt); few = omega arith; limit = λ schema. refl; read = refl; typed = refl }
table_fits the_table.Grant tree = record { shown = refl; tests = refl; strict = refl; order = refl; height = (0, tt); few = omega arith; limit = λ schema. refl; read = refl; typed = refl }
table_fits the_table.Host tree = record { shown = refl; tests = refl; strict = refl; order = refl; height = (0, tt); few = omega arith; limit = λ schema. refl; read = refl; typed = refl }
table_fits the_table.Archived tree = record { shown = refl; tests = refl; strict = refl; order = refl; height = (0, tt); few = omega arith; limit = λ schema. refl; read = refl; typed = refl }
table_fits the_table.Import tree = record { shown = refl; tests = refl; strict = refl; order = refl; height = (0, tt); few = omega arith; limit = λ schema. refl; read = refl; typed = refl }
table_fits the_table.HostClass tree = record { shown = refl; tests = refl; strict = refl; order = refl; height = (0, tt); few = omega arith; limit = λ schema. refl; read = refl; typed = refl }
table_fits the_table.WorkunitClass tree = record { shown = refl; tests = refl; strict = refl; order = refl; height = (0, tt); few = omega arith; limit = λ schema. refl; read = refl; typed = refl }
