-- Queries on one table.
use Rattle.wu_schema.proofs.Words.{Checked, Column, Core, Int, List, Name, None, Ok, Program, Query, Schema, Select, Sort, Source, Term, [], col, declared, false, lit, named, negsuc, place_of, pos, query_to, refl, suc, true, viewing, ℕ, ◌≡◌}
use Rattle.sqlite.specs.Query.{inner, end}
use Rattle.sqlite_schema.specs.declared.schema.Table.{Table}
use Rattle.sqlite_schema.specs.declared.program.Table.{Table as Let}
use Rattle.sqlite_ast.specs.declared.Shown.{roll-Shown}
use Rattle.sqlite_ast.specs.declared.Expr.TheOpen.{Shown-F}
use Rattle.sqlite_ast.specs.declared.Shown as written-shown
use Rattle.sqlite_ast.specs.declared.Source.{roll-Source}
use Rattle.sqlite_ast.specs.declared.Origin.TheVariants as origin
use Rattle.sqlite_resolve.specs.declared.scope.Output.{Output}
use Rattle.sqlite_resolve.specs.Program.{level, Shown}
use Rattle.wu_schema.proofs.ExprLemmas.{column}

abbrev pub plain_query : ℕ → List Term → List Term → Query
plain_query tree filter project = record {
  from = inner tree end;
  filter = filter;
  group = None;
  project = project;
  distinct = false;
  collations = [];
  order = [];
  limit = lit (Int (negsuc 0));
  offset = lit (Int (pos 0));
}

abbrev pub alone : Query → Program
alone q = record { lets = []; body = q }

-- one view's turn is enough where the query names no view
pub viewing_is : (ask : Schema → Select → List Let → Checked (Shown × List Let)) (outer schema : Schema) (core : Core) (order : List Sort) (page : Term × Term) (shown : Shown) (n : ℕ) (lets : List Let) → named schema core order page ≡ Ok shown
    → viewing ask outer core order page (suc n) schema lets ≡ Ok ((shown, schema), lets)
unfolding viewing
viewing_is ask outer schema core order page shown n lets h = rw h

pub query_step : (d : ℕ) (schema : Schema) (s : Select) (lets : List Let) → query_to (suc d) schema s lets ≡ level (query_to d) schema s lets
unfolding query_to
query_step d schema s lets = refl

-- a column that is shown, the table after FROM, and a column of the answer
abbrev pub one : Name → written-shown.Shown
one name = roll-Shown (Shown-F.One (column name) None name)

abbrev pub from_table : Name → Source
from_table name = roll-Source (record { is_left = false; origin = origin.Table name; alias = None; on = None; using = [] })

abbrev pub output : Table → ℕ → Column → Output
output table k c = record { name = c.name; is_alias = false; is_column = true; term = col 1 (place_of table k); carried = declared table k c }
