-- What an upsert compiles to, over any schema.
use Rattle.wu_schema.proofs.Words.{Abort, Carried, Column, Context, Expr, Expr-F, HasTable, Inner, InsertOr, List, Name, None, Null, Ok, Parsed, Rows, Schema, Some, Term, Values, [], codes, col, column_named, declared, everything, first, got_last, got_still, host_at, key_at, length, lit, lower_to, nat_lt, needs, new_rows, nothing, op2, pipeline, place_of, planned, refl, roll-Expr, simple, slice_get, suc, true, ℕ, ◌++◌, ◌-◌, ◌∷◌, ◌≡◌}
use Rattle.sqlite_schema.specs.declared.schema.Table.{Table}
use Rattle.sqlite_sql.specs.declared.ops.BinaryOp.TheVariants as by
use Rattle.sqlite_sql.specs.declared.ops.ArithOp.TheVariants as arith
use Rattle.sqlite.specs.Kind.TheVariants as Kind
use Rattle.sqlite_schema.specs.declared.command.Upsert as made
use Rattle.sqlite_ast.specs.declared.Binary.TheVariants as binary
use Rattle.sqlite_ast.specs.declared.Rows.TheVariants as rows
use Rattle.sqlite_ast.specs.declared.Upsert.{Upsert}
use Rattle.sqlite_ast.specs.declared.Conflict.TheVariants as conflict
use Rattle.sqlite_ast.specs.declared.Statement.TheVariants as written
use Rattle.sqlite_resolve.specs.Given.{given, with_given, given_level, nested, update, upsert, upserts}
use Rattle.sqlite_resolve.specs.Write.{level_of, updated_in, places}
use Rattle.wu_store.proofs.SelectTexts.{CompilesTo, compiles_to}
use Rattle.wu_schema.proofs.ExprLemmas.{column, parameter, so_far, same, lower_step}
use Rattle.wu_schema.proofs.QueryLemmas.{plain_query, alone}
use Rattle.wu_store.specs.declared.texts.TheConstants.{UPSERT_HOST}

abbrev pub upsert_text : List ℕ
upsert_text = UPSERT_HOST.now

abbrev plus : Expr → Expr → Expr
plus a b = roll-Expr (Expr-F.Binary binary.Add a b)

abbrev excluded : Name → Expr
excluded name = roll-Expr (Expr-F.Column (Some (codes "excluded")) name)

abbrev total_plus : Expr
total_plus = plus (column (codes "total")) (excluded (codes "total"))

abbrev grants_plus : Expr
grants_plus = plus (column (codes "grants")) (excluded (codes "grants"))

abbrev clause : Upsert
clause = record { target = codes "name" ∷ []; sets = (codes "total", total_plus) ∷ (codes "grants", grants_plus) ∷ []; filter = None }

abbrev columns : List Name
columns = codes "name" ∷ codes "total" ∷ codes "grants" ∷ []

abbrev rows_given : Rows
rows_given = rows.Values ((parameter 1 ∷ parameter 2 ∷ parameter 3 ∷ []) ∷ [])

abbrev pub upsert_parsed : Parsed
upsert_parsed = record { statement = written.Insert conflict.Abort (codes "host") columns rows_given (clause ∷ []) []; names = codes "?1" ∷ codes "?2" ∷ codes "?3" ∷ []; formats = []; start = 0; end = length upsert_text; tail = length upsert_text }

upsert_first : first upsert_text ≡ Ok upsert_parsed
unfolding everything
upsert_first = refl

abbrev pub upsert_terms : List Term
upsert_terms = lit Null ∷ col 0 0 ∷ col 0 1 ∷ col 0 2 ∷ []

upsert_rows : (schema : Schema) (tree : ℕ) → new_rows schema (host_at tree) 3 columns rows_given ≡ Ok (Values upsert_terms 4)
unfolding everything
upsert_rows schema tree = refl

-- the new row stands after the parameters, as a table of its own
abbrev both : Schema → ℕ → ℕ → Context
both schema at tree = nested (with_given schema (host_at tree) 3) (level_of at (codes "host")) (given_level schema (codes "excluded") [])

module _ (d : ℕ) (schema : Schema) (at tree next budget : ℕ) (last : Carried) (has : HasTable schema (codes "host") at (host_at tree)) (enough : nat_lt 1 budget ≡ true) where
  abbrev the_given : Table
  the_given = given (host_at tree) 3

  still : slice_get (schema.tables ++ the_given ∷ []) at ≡ Some (host_at tree)
  still = got_still schema.tables (the_given ∷ []) _ at (host_at tree) refl has.there

  after : slice_get (schema.tables ++ the_given ∷ []) (length schema.tables) ≡ Some the_given
  after = got_last schema.tables the_given

  pub host_lowers : (name : Name) (k : ℕ) (c : Column) → column_named (host_at tree) name ≡ Some k → slice_get (host_at tree).columns k ≡ Some c
      → lower_to (suc d) (both schema at tree) (column name) (so_far next budget last) ≡ Ok (col 1 (place_of (host_at tree) k), so_far next (budget - 1) (declared (host_at tree) k c))
  unfolding pipeline lower_to
  host_lowers name k c named there = rw (enough, still, named, still, there)

  total_given : lower_to (suc d) (both schema at tree) (excluded (codes "total")) (so_far next budget last) ≡ Ok (col 0 6, so_far next (budget - 1) (declared the_given 5 (needs (codes "total") Kind.Integer)))
  unfolding pipeline lower_to
  total_given = rw (enough, after, after)

  grants_given : lower_to (suc d) (both schema at tree) (excluded (codes "grants")) (so_far next budget last) ≡ Ok (col 0 7, so_far next (budget - 1) (declared the_given 6 (needs (codes "grants") Kind.Integer)))
  unfolding pipeline lower_to
  grants_given = rw (enough, after, after)

abbrev pub add : Term → Term → Term
add = op2 (by.Arith arith.Add)

abbrev pub upsert_row : List Term
upsert_row = col 1 0 ∷ col 1 0 ∷ col 1 1 ∷ add (col 1 2) (col 0 6) ∷ add (col 1 3) (col 0 7) ∷ []

module _ (schema : Schema) (at tree : ℕ) (has : HasTable schema (codes "host") at (host_at tree)) where
  total_lowers : lower_to 700 (both schema at tree) total_plus (so_far 2 100000 nothing) ≡ Ok (add (col 1 2) (col 0 6), so_far 2 99997 nothing)
  unfolding pipeline
  total_lowers = rw (
    lower_step 699 (both schema at tree) total_plus (so_far 2 100000 nothing),
    host_lowers 698 schema at tree 2 99999 nothing has refl (codes "total") 1 (needs (codes "total") Kind.Integer) refl refl,
    total_given 698 schema at tree 2 99998 (declared (host_at tree) 1 (needs (codes "total") Kind.Integer)) has refl,
  )

  grants_lowers : lower_to 700 (both schema at tree) grants_plus (so_far 2 99997 nothing) ≡ Ok (add (col 1 3) (col 0 7), so_far 2 99994 nothing)
  unfolding pipeline
  grants_lowers = rw (
    lower_step 699 (both schema at tree) grants_plus (so_far 2 99997 nothing),
    host_lowers 698 schema at tree 2 99996 nothing has refl (codes "grants") 2 (needs (codes "grants") Kind.Integer) refl refl,
    grants_given 698 schema at tree 2 99995 (declared (host_at tree) 2 (needs (codes "grants") Kind.Integer)) has refl,
  )

  upsert_drafted : updated_in (both schema at tree) (host_at tree) clause.sets None ≡ Ok (simple (Inner tree ∷ []) [] upsert_row)
  unfolding pipeline
  upsert_drafted = rw (total_lowers, grants_lowers)

  abbrev at_place : List Term
  at_place = same (col 1 0) (col 0 3) ∷ []

  upsert_update : update schema at (host_at tree) 3 clause ≡ Ok (Some (alone (plain_query tree at_place upsert_row)))
  unfolding Rattle.sqlite_resolve.specs.Given.update Rattle.sqlite_resolve.specs.Given.do_update pipeline
  upsert_update = rw (upsert_drafted, has.low, has.stands)

  abbrev pub upsert_clauses : List made.Upsert
  upsert_clauses = record { target = Some (1 ∷ []); update = Some (alone (plain_query tree at_place upsert_row)) } ∷ []

  name_place : places (host_at tree) (codes "name" ∷ []) ≡ Ok (1 ∷ [])
  unfolding pipeline
  name_place = refl

  module _ (keyed : key_at schema (host_at tree) (1 ∷ []) ≡ Ok (1 ∷ [])) where
    upsert_is_for : upsert schema at (host_at tree) 3 clause ≡ Ok (record { target = Some (1 ∷ []); update = Some (alone (plain_query tree at_place upsert_row)) })
    unfolding Rattle.sqlite_resolve.specs.Given.upsert Rattle.sqlite_resolve.specs.Given.key_meant
    upsert_is_for = rw (name_place, keyed, upsert_update)

    upserts_are : upserts schema at (host_at tree) 3 (clause ∷ []) ≡ Ok upsert_clauses
    unfolding Rattle.sqlite_resolve.specs.Given.upserts
    upserts_are = rw upsert_is_for

    upsert_planned : planned schema upsert_parsed ≡ Ok ([], (InsertOr at Abort (Values upsert_terms 4) upsert_clauses, None))
    unfolding Rattle.sqlite_resolve.specs.Compile.planned Rattle.sqlite_resolve.specs.Compile.meaning Rattle.sqlite_resolve.specs.Compile.returning Rattle.sqlite_resolve.specs.Compile.command Rattle.sqlite_resolve.specs.Compile.insert_or_abort Rattle.sqlite_resolve.specs.Compile.insert_or Rattle.sqlite_resolve.specs.Compile.timed Rattle.sqlite_resolve.specs.Compile.shows
    upsert_planned = rw (has.named, has.there, upsert_rows schema tree, upserts_are)

    pub upsert_compiles : CompilesTo schema upsert_text upsert_parsed (InsertOr at Abort (Values upsert_terms 4) upsert_clauses)
    upsert_compiles = compiles_to schema upsert_text upsert_parsed _ upsert_first upsert_planned
