-- What the DELETE of a workunit compiles to, over any schema.
use Rattle.wu_schema.proofs.Words.{Expr, HasTable, Inner, List, None, Ok, Parsed, Query, Schema, Some, Term, [], arith, codes, col, everything, false, first, length, lower_to, nothing, pipeline, planned, refl, simple, true, workunit_at, ℕ, ◌∷◌, ◌≡◌}
use Rattle.sqlite.specs.Command.TheVariants.{Delete}
use Rattle.sqlite_sql.specs.declared.ops.CompareOp.TheVariants as compare
use Rattle.sqlite_ast.specs.declared.Statement.TheVariants as written
use Rattle.sqlite_resolve.specs.Write.{deleted}
use Rattle.wu_schema.proofs.ExprLemmas.{column, parameter, equals, scope, so_far, same}
use Rattle.wu_schema.proofs.QueryLemmas.{plain_query, alone}
use Rattle.wu_schema.proofs.SelectLemmas.{test_lowers}
use Rattle.wu_store.proofs.SelectTexts.{CompilesTo, compiles_to}
use Rattle.wu_store.specs.declared.texts.TheConstants.{DELETE_WORKUNIT}

abbrev pub delete_text : List ℕ
delete_text = DELETE_WORKUNIT.now

abbrev numbered : Expr
numbered = equals (column (codes "number")) (parameter 1)

abbrev pub by_number : List Term
by_number = same (col 1 0) (col 0 0) ∷ []

abbrev pub shows_number : List Term
shows_number = col 1 0 ∷ []

abbrev pub delete_query : ℕ → Query
delete_query tree = plain_query tree by_number shows_number

abbrev pub delete_parsed : Parsed
delete_parsed = record { statement = written.Delete (codes "workunit") (Some numbered) []; names = codes "?1" ∷ []; formats = []; start = 0; end = length delete_text; tail = length delete_text }

delete_first : first delete_text ≡ Ok delete_parsed
unfolding everything
delete_first = refl

module _ (schema : Schema) (at tree : ℕ) (has : HasTable schema (codes "workunit") at (workunit_at tree)) where
  number_is : lower_to 700 (scope schema (codes "workunit") at [] false true) numbered (so_far 2 100000 nothing) ≡ Ok (same (col 1 0) (col 0 0), so_far 2 99997 nothing)
  unfolding pipeline
  number_is = test_lowers schema (codes "workunit") at (workunit_at tree) has 698 [] false true 100000 nothing (0, compare.Eq, 0) (omega arith) refl refl

  delete_drafted : deleted schema at (workunit_at tree) (Some numbered) ≡ Ok (simple (Inner tree ∷ []) by_number shows_number)
  unfolding pipeline
  delete_drafted = rw number_is

  delete_planned : planned schema delete_parsed ≡ Ok ([], (Delete at (alone (delete_query tree)), None))
  unfolding Rattle.sqlite_resolve.specs.Compile.planned Rattle.sqlite_resolve.specs.Compile.meaning Rattle.sqlite_resolve.specs.Compile.returning Rattle.sqlite_resolve.specs.Compile.command Rattle.sqlite_resolve.specs.Compile.delete Rattle.sqlite_resolve.specs.Compile.timed Rattle.sqlite_resolve.specs.Compile.shows pipeline
  delete_planned = rw (has.named, has.there, delete_drafted, has.low, has.stands)

  pub delete_compiles : CompilesTo schema delete_text delete_parsed (Delete at (alone (delete_query tree)))
  delete_compiles = compiles_to schema delete_text delete_parsed _ delete_first delete_planned
