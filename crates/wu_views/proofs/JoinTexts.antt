-- The SELECTs of the workunits with their classes, and of the instances with the names of their workunits: their texts, and
-- what they compile to over any schema that has their tables.
use Rattle.wu_schema.proofs.Words.{Binary, Carried, Context, Database, Expr, Expr-F, HasTable, List, None, Ok, Parsed, Query, Refines, Schema, Some, Sort, State, Term, World, [], arith, codes, col, declared, everything, false, first, map, nothing, op2, pipeline, refl, result_at, roll-Expr, true, workunit_at, workunit_class_at, ℕ, ◌++◌, ◌∷◌, ◌≡◌}
use Rattle.sqlite_value.specs.declared.keys.Key.{Key}
use Rattle.sqlite_sql.specs.Term.{op1}
use Rattle.sqlite_sql.specs.declared.ops.BinaryOp.TheVariants as by
use Rattle.sqlite_sql.specs.declared.ops.CompareOp.TheVariants as compare
use Rattle.sqlite_sql.specs.declared.ops.UnaryOp.TheVariants.{Length}
use Rattle.sqlite_ast.specs.declared.Binary.TheVariants as binary
use Rattle.sqlite_ast.specs.declared.Sort.{roll-Sort}
use Rattle.sqlite_schema.specs.declared.schema.Table.{Table}
use Rattle.sqlite.specs.Command.TheVariants as command
use Rattle.sqlite_resolve.specs.declared.scope.Output.{Output}
use Rattle.sqlite_resolve.specs.Body.{tests}
use Rattle.sqlite_resolve.specs.Expr.{lower}
use Rattle.sqlite_resolve.specs.Order.{sorts}
use Rattle.wu_schema.proofs.ExprLemmas.{column, lower_step, so_far}
use Rattle.wu_schema.proofs.Parts.{parts_there, table_of}
use Rattle.wu_schema.specs.declared.table.ProjectTable.{ProjectTable}
use Rattle.wu_schema.specs.declared.table.ProjectTable.TheVariants as the_table
use Rattle.wu_schema.specs.ProjectTables.{IsTableOf, table_name, table_at}
use Rattle.wu_schema.specs.Tables.{IsClassedVersion}
use Rattle.wu_schema.proofs.QueryLemmas.{alone}
use Rattle.wu_schema.proofs.SelectLemmas.{CompilesTo, the}
use Rattle.wu_schema.proofs.ToldLemmas.{query_told}
use Rattle.wu_store.specs.StandsFor.{KnowsClasses}
use Rattle.wu_store.specs.Reads.{WithClasses}
use Rattle.wu_store.proofs.AskLemmas.{IsQuestion}
use Rattle.wu_views.proofs.JoinLemmas.{accepts_two, AskedOfTwo, cell_lowers, compiles_two, FitsTwo, Item, length_of, met, names_of, never_over_two, outputs_of, own, parsed_of, plain, query_of, scope_of_two, select_of, terms_of, told}
pub use Rattle.wu_views.proofs.JoinLemmas.{joined_query}
use Rattle.wu_views.specs.declared.texts.TheConstants.{LIST_RESULTS, LIST_WORKUNITS}

-- rising by a column of the first table
abbrev pub rising_by : ℕ → Term × Key
rising_by place = (col 1 place, record { collation = Binary; descending = false })

-- each workunit with its class, and its input as a length alone
abbrev pub workunits_text : List ℕ
workunits_text = LIST_WORKUNITS.now

-- each instance with the name of its workunit, and its output as a length alone
abbrev pub results_text : List ℕ
results_text = LIST_RESULTS.now

-- the class is that of the workunit
abbrev pub workunits_tests : List Term
workunits_tests = op2 (by.Compare compare.Eq Binary) (col 2 0) (col 1 0) ∷ []

-- what is shown of a workunit and its class
abbrev pub workunits_shows : List Term
workunits_shows = map (col 1) (0 ∷ 2 ∷ 3 ∷ 4 ∷ 5 ∷ 6 ∷ 7 ∷ 8 ∷ 9 ∷ []) ++ op1 Length (col 1 10) ∷ map (col 1) (11 ∷ 12 ∷ 13 ∷ 14 ∷ 15 ∷ []) ++ col 2 2 ∷ []

-- by number
abbrev pub workunits_order : List (Term × Key)
workunits_order = rising_by 0 ∷ []

-- over the trees of the workunits and of their classes
abbrev pub workunits_query : ℕ → ℕ → Query
workunits_query work class = joined_query work class workunits_tests workunits_shows workunits_order

-- the workunit is that of the instance
abbrev pub results_tests : List Term
results_tests = op2 (by.Compare compare.Eq Binary) (col 2 0) (col 1 1) ∷ []

-- what is shown of an instance and its workunit
abbrev pub results_shows : List Term
results_shows = map (col 1) (3 ∷ 4 ∷ 5 ∷ 6 ∷ 7 ∷ 8 ∷ 9 ∷ 10 ∷ 2 ∷ []) ++ col 2 2 ∷ op1 Length (col 1 11) ∷ []

-- by workunit, and then by number
abbrev pub results_order : List (Term × Key)
results_order = rising_by 1 ∷ rising_by 2 ∷ []

-- over the trees of the instances and of the workunits
abbrev pub results_query : ℕ → ℕ → Query
results_query result work = joined_query result work results_tests results_shows results_order

-- ORDER BY a column
abbrev sort_by : List ℕ → Sort
sort_by name = roll-Sort (record { key = column name; descending = false; nulls_first = None })

-- the first column of the second table equals the first of the first
abbrev firsts_equal : List ℕ → List ℕ → Expr
firsts_equal one other = roll-Expr (Expr-F.Binary binary.Eq (column one) (column other))

-- ---- workunits with their classes

-- columns of the first table, by their places
abbrev own_items : List ℕ → List Item
own_items = map (λ k. plain (own k))

-- the question for the workunits
abbrev workunits_asked : AskedOfTwo
workunits_asked = record {
  text = workunits_text;
  items = own_items (0 ∷ 1 ∷ 2 ∷ 3 ∷ 4 ∷ 5 ∷ 6 ∷ 7 ∷ 8 ∷ []) ++ length_of (own 9) ∷ own_items (10 ∷ 11 ∷ 12 ∷ 13 ∷ 14 ∷ []) ++ plain (met 1) ∷ [];
  filter = firsts_equal (codes "workunit") (codes "number");
  tests = workunits_tests;
  sorts = sort_by (codes "number") ∷ [];
  order = workunits_order;
}

module _ (work class : ℕ) where
  abbrev one : Table
  one = workunit_at work

  abbrev two : Table
  two = workunit_class_at class

  abbrev workunits_parsed : Parsed
  workunits_parsed = parsed_of (codes "workunit") (codes "workunit_class") one two workunits_asked

  workunits_read : first workunits_text ≡ Ok workunits_parsed
  unfolding everything
  workunits_read = refl

  module _ (schema : Schema) (at there : ℕ) (has : HasTable schema (codes "workunit") at one) (has_class : HasTable schema (codes "workunit_class") there two) where
    abbrev shown : List Output
    shown = outputs_of (codes "workunit") (codes "workunit_class") one two workunits_asked

    abbrev cx : Context
    cx = scope_of_two schema (codes "workunit") (codes "workunit_class") at there shown false true

    -- WHERE
    numbers_equal : tests lower cx [] (Some workunits_asked.filter) (so_far 3 99983 (declared two 1 (the two 1))) ≡ Ok (workunits_tests, so_far 3 99980 nothing)
    unfolding pipeline
    numbers_equal = rw (
      lower_step 699 cx workunits_asked.filter (so_far 3 99983 (declared two 1 (the two 1))),
      cell_lowers (codes "workunit") (codes "workunit_class") one two schema at there has has_class 698 shown false 99982 nothing (met 0) (omega arith) (refl, refl, refl),
      cell_lowers (codes "workunit") (codes "workunit_class") one two schema at there has has_class 698 shown false 99981 nothing (own 0) (omega arith) (refl, refl, refl),
    ) refl

    -- ORDER BY
    by_number : sorts lower cx shown workunits_asked.sorts (so_far 3 99980 nothing) ≡ Ok (workunits_order, so_far 3 99979 nothing)
    unfolding pipeline
    by_number = rw (cell_lowers (codes "workunit") (codes "workunit_class") one two schema at there has has_class 699 shown false 99980 nothing (own 0) (omega arith) (refl, refl, refl)) refl

    workunits_fit : FitsTwo (codes "workunit") (codes "workunit_class") one two workunits_asked schema at there has has_class
    unfolding everything
    workunits_fit = record {
      few = omega arith;
      found = refl;
      left = 99980;
      last = nothing;
      filtered = numbers_equal;
      ends_left = 99979;
      ends_last = nothing;
      sorted = by_number;
      typed = refl;
      read = workunits_read;
    }

-- ---- instances with the names of their workunits

-- the question for the instances
abbrev results_asked : AskedOfTwo
results_asked = record {
  text = results_text;
  items = own_items (2 ∷ 3 ∷ 4 ∷ []) ++ plain (told 5) ∷ own_items (6 ∷ 7 ∷ 8 ∷ 9 ∷ 1 ∷ []) ++ plain (met 1) ∷ length_of (own 10) ∷ [];
  filter = firsts_equal (codes "number") (codes "workunit");
  tests = results_tests;
  sorts = sort_by (codes "workunit") ∷ sort_by (codes "n") ∷ [];
  order = results_order;
}

module _ (result work : ℕ) where
  abbrev instances : Table
  instances = result_at result

  abbrev works : Table
  works = workunit_at work

  abbrev results_parsed : Parsed
  results_parsed = parsed_of (codes "result") (codes "workunit") instances works results_asked

  results_read : first results_text ≡ Ok results_parsed
  unfolding everything
  results_read = refl

  module _ (schema : Schema) (at there : ℕ) (has : HasTable schema (codes "result") at instances) (has_work : HasTable schema (codes "workunit") there works) where
    abbrev results_shown : List Output
    results_shown = outputs_of (codes "result") (codes "workunit") instances works results_asked

    abbrev results_cx : Context
    results_cx = scope_of_two schema (codes "result") (codes "workunit") at there results_shown false true

    abbrev carried_at : ℕ → Carried
    carried_at k = declared instances k (the instances k)

    -- WHERE
    of_their_work : tests lower results_cx [] (Some results_asked.filter) (so_far 3 99988 nothing) ≡ Ok (results_tests, so_far 3 99985 nothing)
    unfolding pipeline
    of_their_work = rw (
      lower_step 699 results_cx results_asked.filter (so_far 3 99988 nothing),
      cell_lowers (codes "result") (codes "workunit") instances works schema at there has has_work 698 results_shown false 99987 nothing (met 0) (omega arith) (refl, refl, refl),
      cell_lowers (codes "result") (codes "workunit") instances works schema at there has has_work 698 results_shown false 99986 nothing (own 0) (omega arith) (refl, refl, refl),
      has.there,
    ) refl

    -- ORDER BY
    by_pair : sorts lower results_cx results_shown results_asked.sorts (so_far 3 99985 nothing) ≡ Ok (results_order, so_far 3 99983 (carried_at 1))
    unfolding pipeline
    by_pair = rw (
      cell_lowers (codes "result") (codes "workunit") instances works schema at there has has_work 699 results_shown false 99985 nothing (own 0) (omega arith) (refl, refl, refl),
      cell_lowers (codes "result") (codes "workunit") instances works schema at there has has_work 699 results_shown false 99984 (carried_at 0) (own 1) (omega arith) (refl, refl, refl),
    ) refl

    results_fit : FitsTwo (codes "result") (codes "workunit") instances works results_asked schema at there has has_work
    unfolding everything
    results_fit = record {
      few = omega arith;
      found = refl;
      left = 99985;
      last = nothing;
      filtered = of_their_work;
      ends_left = 99983;
      ends_last = carried_at 1;
      sorted = by_pair;
      typed = refl;
      read = results_read;
    }

-- ---- over tables that stand for a world with classes

-- the SELECT of two parts is a question, and what it compiles to
pub record JoinsParts (p r : ProjectTable) (q : AskedOfTwo) : Type 1 where
  pub question : IsQuestion q.text [] WithClasses
  pub here : (old : State) (world : World) → KnowsClasses world → (s : Refines old.now world)
      → CompilesTo old.now.schema q.text (parsed_of (table_name p) (table_name r) (table_of s.trees p) (table_of s.trees r) q) (command.Select (alone (query_of (table_name p) (table_name r) (table_of s.trees p) (table_of s.trees r) q)) (names_of (table_name p) (table_name r) (table_of s.trees p) (table_of s.trees r) q))

-- where it fits their tables, only memory, the disk or size may fail it
joins_parts : (p r : ProjectTable) (q : AskedOfTwo) → ((version : ℕ) → IsClassedVersion version → IsTableOf p version × IsTableOf r version) → first q.text ≡ Ok (parsed_of (table_name p) (table_name r) (table_at p 0) (table_at r 0) q)
    → ((tree other : ℕ) (schema : Schema) (at there : ℕ) (has : HasTable schema (table_name p) at (table_at p tree)) (has_other : HasTable schema (table_name r) there (table_at r other)) → FitsTwo (table_name p) (table_name r) (table_at p tree) (table_at r other) q schema at there has has_other) → JoinsParts p r q
joins_parts p r q are_in read fits =
    let fit = λ (db : Database) (world : World) (known : KnowsClasses world) (s : Refines db world).
    let are = are_in world.version known in
    let one = parts_there db world s p are.0 in
    let other = parts_there db world s r are.1 in
    fits (s.trees p) (s.trees r) db.schema one.0 other.0 one.1 other.1 in
    let here = λ (old : State) (world : World) (known : KnowsClasses world) (s : Refines old.now world). compiles_two (table_name p) (table_name r) (table_of s.trees p) (table_of s.trees r) q old.now.schema _ _ _ _ (fit old.now world known s) in
    record {
      question = record {
        select = record { parsed = parsed_of (table_name p) (table_name r) (table_at p 0) (table_at r 0) q; select = select_of (table_name p) (table_name r) (table_at p 0) (table_at r 0) q; read = read; is = refl };
        told = λ old new e h world stood unlimited.
            let (known, s) = stood in
            let one = table_of s.trees p in
            let other = table_of s.trees r in
            query_told q.text [] old new _ _ _ (here old world known s) (omega arith) refl (accepts_two (table_name p) (table_name r) one other q old.now.schema _ _ _ _ (fit old.now world known s)) (never_over_two one.tree other.tree q.tests (terms_of (table_name p) (table_name r) one other q) q.order old.now.trees []) unlimited e h;
      };
      here = here;
    }

-- the SELECT of the workunits, and that of the instances
pub workunits_joined : JoinsParts the_table.Workunit the_table.WorkunitClass workunits_asked
workunits_joined = joins_parts the_table.Workunit the_table.WorkunitClass workunits_asked (λ version known. (tt, known)) (workunits_read 0 0) workunits_fit

pub results_joined : JoinsParts the_table.Result the_table.Workunit results_asked
results_joined = joins_parts the_table.Result the_table.Workunit results_asked (λ version known. (tt, tt)) (results_read 0 0) results_fit
