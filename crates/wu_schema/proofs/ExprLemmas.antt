-- What a column, a parameter and a comparison lower to, over any schema.
use Rattle.wu_schema.proofs.Words.{Binary, Bool, Carried, Column, Context, Expr, Expr-F, HasTable, List, Name, None, Ok, Schema, Some, Term, [], col, column_named, declared, lower_to, nat_lt, nothing, op2, pipeline, place_of, refl, roll-Expr, slice_get, suc, true, ℕ, ◌-◌, ◌∷◌, ◌≡◌}
use Rattle.sqlite_schema.specs.declared.schema.Table.{Table}
use Rattle.sqlite_sql.specs.declared.ops.BinaryOp.TheVariants as by
use Rattle.sqlite_sql.specs.declared.ops.CompareOp.TheVariants as compare
use Rattle.sqlite_ast.specs.declared.Binary.TheVariants as binary
use Rattle.sqlite_draft.specs.declared.query.Aggregate.{Aggregate}
use Rattle.sqlite_resolve.specs.declared.state.State.{State}
use Rattle.sqlite_resolve.specs.declared.scope.Output.{Output}
use Rattle.sqlite_resolve.specs.Expr.{node}

abbrev pub column : Name → Expr
column name = roll-Expr (Expr-F.Column None name)

abbrev pub parameter : ℕ → Expr
parameter n = roll-Expr (Expr-F.Parameter n)

abbrev pub equals : Expr → Expr → Expr
equals a b = roll-Expr (Expr-F.Binary binary.Eq a b)

-- one table stands in FROM, in slot 1
abbrev pub scope : Schema → Name → ℕ → List Output → Bool → Bool → Context
scope schema name at shown may_aggregate may_alias =
    record { schema = schema; levels = record { tables = record { name = name; table = at; slot = 1; shared = [] } ∷ []; shown = shown } ∷ []; may_aggregate = may_aggregate; may_alias = may_alias }

abbrev pub so_far : ℕ → ℕ → Carried → State
so_far next budget last = record { next = next; steps = []; aggregates = []; budget = budget; written = None; last = last }

-- with these aggregates
abbrev pub so_far_with : List Aggregate → ℕ → ℕ → Carried → State
so_far_with all next budget last = record (so_far next budget last) { aggregates = all }

module _ (d : ℕ) (schema : Schema) (title : Name) (at : ℕ) (table : Table) (shown : List Output) (may_aggregate may_alias : Bool) (next budget : ℕ) (last : Carried) (has : HasTable schema title at table) (enough : nat_lt 1 budget ≡ true) where
  pub column_lowers_with : (all : List Aggregate) (name : Name) (k : ℕ) (c : Column) → column_named table name ≡ Some k → slice_get table.columns k ≡ Some c
      → lower_to (suc d) (scope schema title at shown may_aggregate may_alias) (column name) (so_far_with all next budget last) ≡ Ok (col 1 (place_of table k), so_far_with all next (budget - 1) (declared table k c))
  unfolding pipeline lower_to
  column_lowers_with all name k c named there = rw (enough, has.there, named, has.there, there)

  pub column_lowers : (name : Name) (k : ℕ) (c : Column) → column_named table name ≡ Some k → slice_get table.columns k ≡ Some c
      → lower_to (suc d) (scope schema title at shown may_aggregate may_alias) (column name) (so_far next budget last) ≡ Ok (col 1 (place_of table k), so_far next (budget - 1) (declared table k c))
  column_lowers name k c = column_lowers_with [] name k c

  pub parameter_lowers_with : (all : List Aggregate) (n : ℕ) → lower_to (suc d) (scope schema title at shown may_aggregate may_alias) (parameter n) (so_far_with all next budget last) ≡ Ok (col 0 (n - 1), so_far_with all next (budget - 1) nothing)
  unfolding pipeline lower_to
  parameter_lowers_with all n = rw enough

  pub parameter_lowers : (n : ℕ) → lower_to (suc d) (scope schema title at shown may_aggregate may_alias) (parameter n) (so_far next budget last) ≡ Ok (col 0 (n - 1), so_far next (budget - 1) nothing)
  parameter_lowers = parameter_lowers_with []

pub lower_step : (d : ℕ) (cx : Context) (e : Expr) (s : State) → lower_to (suc d) cx e s ≡ node (lower_to d) cx e s
unfolding lower_to
lower_step d cx e s = refl

abbrev pub same : Term → Term → Term
same = op2 (by.Compare compare.Eq Binary)

abbrev pub more : Term → Term → Term
more = op2 (by.Compare compare.Gt Binary)
