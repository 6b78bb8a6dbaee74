-- What a SELECT compiles to that counts the rows of a table.
use Rattle.wu_schema.proofs.Words.{Carried, Core, Draft, Expr, Expr-F, HasTable, Inner, Int, List, Name, None, Null, Ok, Option, Parsed, Query, Row, ◌&&◌, Schema, Select, Some, Term, [], accepts_program, arith, codes, col, false, length, lit, lower_to, map, named, negsuc, nothing, pipeline, planned, pos, program, query, query_to, refl, roll-Core, roll-Expr, roll-Select, row_classes, simple, true, ℕ, ◌-◌, ◌<◌, ◌∷◌, ◌≡◌, first}
use Rattle.std.proofs.lemmas.Bool.{lt-ltb}
use Rattle.sqlite_schema.specs.declared.schema.Table.{Table}
use Rattle.sqlite_ast.specs.declared.Core.{out-Core}
use Rattle.sqlite_ast.specs.declared.Expr.TheOpen.{Core-F, Select-F, Shown-F}
use Rattle.sqlite_ast.specs.declared.Expr.TheViews.{out-roll-Core, out-roll-Select}
use Rattle.sqlite_ast.specs.declared.Select.{out-Select}
use Rattle.sqlite_ast.specs.declared.Shown.{Shown, roll-Shown}
use Rattle.sqlite_ast.specs.declared.Arm.{Arm}
use Rattle.sqlite_ast.specs.declared.Sort.{Sort}
use Rattle.sqlite_ast.specs.declared.Source.{Source}
use Rattle.sqlite_ast.specs.declared.Statement.TheVariants as written
use Rattle.sqlite.specs.Command.TheVariants as command
use Rattle.sqlite_draft.specs.Query.{grouping_of}
use Rattle.sqlite_draft.specs.declared.query.Aggregate.{Aggregate}
use Rattle.sqlite_draft.specs.declared.query.Grouping.{Grouping}
use Rattle.sqlite_resolve.specs.declared.scope.Output.{Output}
use Rattle.sqlite_resolve.specs.Lowering.{pending}
use Rattle.sqlite_sql.specs.declared.aggregate.AggregateOp.TheVariants.{CountRows}
use Rattle.sqlite_typing.specs.Types.{accepts_after, is_count}
use Rattle.sqlite_value.specs.declared.keys.Collation.{Collation}
use Rattle.sqlite_value.specs.declared.keys.Collation.TheVariants.{Binary}
use Rattle.wu_schema.proofs.ExprLemmas.{column, lower_step, scope, so_far, so_far_with}
use Rattle.wu_schema.proofs.QueryLemmas.{alone, from_table, one, plain_query, query_step, viewing_is}
use Rattle.wu_schema.proofs.SelectLemmas.{AreStrict, CompilesTo, FitsUnder, IsFound, Test, meets, places, where_cost, where_lowers_with, where_of, compiles_to, how, the}

-- count(*), and its column of the answer
abbrev pub count_star : Expr
count_star = roll-Expr (Expr-F.CallStar (codes "count"))

abbrev pub count_shown : Shown
count_shown = roll-Shown (Shown-F.One count_star None (codes "count(*)"))

abbrev pub count_output : Output
count_output = record { name = codes "count(*)"; is_alias = false; is_column = false; term = col pending 0; carried = nothing }

abbrev pub count_rows : Aggregate
count_rows = record { op = CountRows; distinct = false; collation = Binary; argument = lit Null }

-- before LIMIT: all rows, from the first
abbrev pub whole : Term × Term
whole = (lit (Int (negsuc 0)), lit (Int (pos 0)))

-- all of them as one group
abbrev pub count_grouping : Grouping
count_grouping = record { keys = []; collations = []; aggregates = count_rows ∷ []; having = [] }

abbrev pub count_names : List Name
count_names = count_output.name ∷ []

-- ---- a SELECT that counts rows of a table: how their columns compare with parameters

pub record Counted : Type 0 where
  pub text : List ℕ
  pub parameters : List Name
  pub tests : List Test

module _ (title : Name) (table : Table) (q : Counted) where
  abbrev pub counted_tests : List Term
  counted_tests = map (meets table) q.tests

  abbrev pub count_query : Query
  count_query = record (plain_query table.tree counted_tests (col 1 0 ∷ [])) { group = Some (grouping_of count_grouping) }

  abbrev count_draft : Draft
  count_draft = record (simple (Inner table.tree ∷ []) counted_tests (col 1 0 ∷ [])) { group = Some count_grouping }

  abbrev count_layer : Core-F Expr Shown Arm Core Select Sort Source
  count_layer = record { distinct = false; shown = count_shown ∷ []; from = from_table title ∷ []; filter = where_of table q.tests; group = []; having = None }

  abbrev pub count_core : Core
  count_core = roll-Core count_layer

  abbrev pub count_select : Select
  count_select = roll-Select (record { with = []; first = count_core; others = []; order = []; limit = None; offset = None })

  abbrev pub count_parsed : Parsed
  count_parsed = record { statement = written.Select count_select; names = q.parameters; formats = []; start = 0; end = length q.text; tail = length q.text }

  abbrev pub IsCountTyped : Row → Type 0
  IsCountTyped params = (accepts_after params count_query (Some (row_classes table ∷ [])) && (is_count params (lit (Int (negsuc 0))) && is_count params (lit (Int (pos 0))))) ≡ true

-- what is to be seen of a table and such a SELECT, each by `refl`
pub record CountFits (title : Name) (table : Table) (q : Counted) : Type 0 where
  pub tests : IsFound table (places q.tests)
  pub strict : AreStrict table q.tests
  pub height : (d : ℕ) × FitsUnder d q.tests
  pub few : where_cost q.tests < 99000
  pub read : first q.text ≡ Ok (count_parsed title table q)
  pub typed : IsCountTyped title table q []

module _ (schema : Schema) (title : Name) (at : ℕ) (table : Table) (has : HasTable schema title at table) where
  count_lowers : (b : ℕ) (last : Carried) → 1 < b → lower_to 700 (scope schema title at [] true true) count_star (so_far 2 b last) ≡ Ok (col pending 0, so_far_with (count_rows ∷ []) 2 (b - 1) nothing)
  unfolding pipeline
  count_lowers b last some = rw (lower_step 699 (scope schema title at [] true true) count_star (so_far 2 b last), lt-ltb 1 b some) refl

  abbrev collations : List (Option Collation)
  collations = count_output.carried.collation ∷ []

  module _ (q : Counted) where
    count_named : CountFits title table q → (core : Core) → out-Core core ≡ count_layer title table q → named schema core [] whole ≡ Ok (count_draft title table q, count_names, collations)
    unfolding pipeline
    count_named fits core rolled =
        let few = fits.few in
        rw (
          rolled,
          has.named,
          count_lowers 100000 nothing (omega arith),
          has.there,
          where_lowers_with schema title at table has (count_rows ∷ []) fits.height.0 (count_output ∷ []) q.tests 99999 nothing fits.height.1 (omega (arith, few)) fits.tests fits.strict,
        ) refl

  abbrev layer_of : Core → Select-F Expr Shown Arm Core Select Sort Source
  layer_of core = record { with = []; first = core; others = []; order = []; limit = None; offset = None }

  module _ (q : Counted) (fits : CountFits title table q) where
    query_at : (core : Core) (s : Select) → out-Core core ≡ count_layer title table q → out-Select s ≡ layer_of core → query schema s ≡ Ok ((count_draft title table q, count_names, collations), [])
    unfolding pipeline
    query_at core s is layer =
        rw (query_step 15 schema s [], layer, is, viewing_is (query_to 15) schema schema core [] whole _ 63 [] (count_named q fits core is)) refl

    pub counted_accepted : (params : Row) → IsCountTyped title table q params → accepts_program schema [] (count_query title table q) params ≡ true
    counted_accepted params typed = rw (has.low, has.stands) typed

    program_is : accepts_program schema [] (count_query title table q) [] ≡ true → program schema [] (count_draft title table q) ≡ Ok (alone (count_query title table q))
    unfolding pipeline
    program_is typed = rw typed refl

    planned_is : planned schema (count_parsed title table q) ≡ Ok ([], (command.Select (alone (count_query title table q)) count_names, None))
    unfolding Rattle.sqlite_resolve.specs.Compile.planned Rattle.sqlite_resolve.specs.Compile.meaning Rattle.sqlite_resolve.specs.Compile.returning Rattle.sqlite_resolve.specs.Compile.command Rattle.sqlite_resolve.specs.Compile.read Rattle.sqlite_resolve.specs.Compile.timed
    planned_is =
        rw (query_at (count_core title table q) (count_select title table q) (out-roll-Core (count_layer title table q)) (out-roll-Select (layer_of (count_core title table q))), program_is (counted_accepted [] fits.typed)) refl

    pub counted_compiles : CompilesTo schema q.text (count_parsed title table q) (command.Select (alone (count_query title table q)) count_names)
    counted_compiles = compiles_to schema q.text (count_parsed title table q) _ fits.read planned_is
