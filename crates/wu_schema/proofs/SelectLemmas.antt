-- What a SELECT on one table compiles to, over any schema in which its name finds the table, for any table and any
-- columns.
use Rattle.wu_schema.proofs.Words.{Binary, Bool, Carried, Column, Command, Context, Core, Draft, Expr, Expr-F, HasTable, Inner, Int, IsPlain, List, Name, None, Ok, Option, Parsed, Query, Row, Schema, Select, Some, Sort, Source, Term, [], accepts_program, ap, arith, col, column_named, command_of, declared, false, first, if◌then◌else◌, is_key, length, lit, lower_to, map, may, named, negsuc, nothing, op2, pipeline, place_of, planned, pos, position_from, program, query, query_to, reads_listing, refl, roll-Core, roll-Expr, roll-Select, row_classes, same_name, simple, slice_get, subst, suc, sym, true, understood, unwrap_or, with_command, ℕ, ◌&&◌, ◌++◌, ◌+◌, ◌-◌, ◌<◌, ◌==◌, ◌∙◌, ◌∷◌, ◌≡◌}
use Rattle.std.proofs.lemmas.List.{append_assoc, append-nil}
use Rattle.std.proofs.lemmas.Bool.{lt-ltb}
use Rattle.sqlite.specs.Kind.{Kind}
use Rattle.sqlite_value.specs.declared.keys.Key.{Key}
use Rattle.sqlite_value.specs.declared.keys.Collation.{Collation}
use Rattle.sqlite_schema.specs.declared.schema.Table.{Table}
use Rattle.sqlite_sql.specs.declared.ops.BinaryOp.{BinaryOp}
use Rattle.sqlite_sql.specs.declared.ops.BinaryOp.TheVariants as by
use Rattle.sqlite_sql.specs.declared.ops.CompareOp.{CompareOp}
use Rattle.sqlite_sql.specs.declared.ops.CompareOp.TheVariants as compare
use Rattle.sqlite_ast.specs.declared.Binary as binary_of
use Rattle.sqlite_ast.specs.declared.Binary.TheVariants as binary
use Rattle.sqlite_ast.specs.declared.Core.{out-Core}
use Rattle.sqlite_ast.specs.declared.Expr.TheViews.{out-roll-Core, out-roll-Select}
use Rattle.sqlite_ast.specs.declared.Expr.TheOpen.{Select-F}
use Rattle.sqlite_ast.specs.declared.Select.{out-Select}
use Rattle.sqlite_ast.specs.declared.Shown.{Shown}
use Rattle.sqlite_ast.specs.declared.Arm.{Arm}
use Rattle.sqlite_ast.specs.declared.Sort.{roll-Sort}
use Rattle.sqlite_ast.specs.declared.Statement.TheVariants as written
use Rattle.sqlite_draft.specs.declared.query.Aggregate.{Aggregate}
use Rattle.sqlite_resolve.specs.declared.scope.Bound.{Bound}
use Rattle.sqlite_resolve.specs.declared.scope.Output.{Output}
use Rattle.sqlite_resolve.specs.declared.state.State.{State}
use Rattle.sqlite_resolve.specs.Lowering.{chosen, alone}
use Rattle.sqlite_resolve.specs.Body.{heading, outputs_from, tests}
use Rattle.sqlite_resolve.specs.Compare.{compared, converted, of_declared, of_kind, is_filler, at_place}
use Rattle.sqlite_resolve.specs.declared.compare.Affinity.{Affinity}
use Rattle.sqlite_resolve.specs.declared.compare.Affinity.TheVariants as affinity
use Rattle.sqlite_resolve.specs.Terms.{conjuncts}
use Rattle.sqlite_resolve.specs.Expr.{lower, is_identity, combine}
use Rattle.sqlite_resolve.specs.Order.{sorts, sorts_from}
use Rattle.wu_schema.proofs.ExprLemmas.{column, parameter, scope, so_far, so_far_with, lower_step, column_lowers, column_lowers_with, parameter_lowers_with}
use Rattle.wu_schema.proofs.QueryLemmas.{plain_query, alone as by_itself, viewing_is, query_step, one, from_table, output}
use Rattle.sqlite.specs.Command.TheVariants as command
use Rattle.sqlite_resolve.specs.Select.{constant_or}
use Rattle.sqlite_typing.specs.Types.{are_tests, are_typed, is_count}
use Rattle.wu_schema.proofs.CompileLemmas.{understood_is, compiled_is}

-- what is known of a text over a schema, once it compiles
pub record CompilesTo (schema : Schema) (text : List ℕ) (p : Parsed) (command : Command) : Type 0 where
  pub known : understood schema text ≡ Ok (with_command p ([], (command, None)))
  pub is : command_of (understood schema text) ≡ command
  pub plain : IsPlain (understood schema text)
  pub unlisted : reads_listing schema text ≡ false

pub compiles_to : (schema : Schema) (text : List ℕ) (p : Parsed) (command : Command) → first text ≡ Ok p → planned schema p ≡ Ok ([], (command, None)) → CompilesTo schema text p command
compiles_to schema text p command read plan =
    let it = understood_is schema text _ (compiled_is schema text p _ read plan) in
    record { known = it.0; is = ap command_of it.0; plain = subst IsPlain (sym it.0) (refl, refl); unlisted = it.1 }

-- the column at a place of a table
abbrev pub the : Table → ℕ → Column
the table k = unwrap_or (slice_get table.columns k) (may [] Kind.Integer)

abbrev pub name_at : Table → ℕ → Name
name_at table k = (the table k).name

-- each name finds its column
abbrev pub IsFound : Table → List ℕ → Type 0
IsFound table ks = ◌≡◌ {A = List (Option ℕ × Option Column)} (map (λ k. (column_named table (name_at table k), slice_get table.columns k)) ks) (map (λ k. (Some k, Some (the table k))) ks)

abbrev pub output_at : Table → ℕ → Output
output_at table k = output table k (the table k)

pub found_first : (table : Table) (k : ℕ) (ks : List ℕ) → IsFound table (k ∷ ks) → (column_named table (name_at table k) ≡ Some k) × (slice_get table.columns k ≡ Some (the table k)) × IsFound table ks
found_first table k ks h =
    let pair : ◌≡◌ {A = Option ℕ × Option Column} (column_named table (name_at table k), slice_get table.columns k) (Some k, Some (the table k)) = cc in
    (ap (λ (x : Option ℕ × Option Column). x.0) pair, ap (λ (x : Option ℕ × Option Column). x.1) pair, cc)

-- ---- a list of columns

abbrev pub carried_after : Table → Carried → List ℕ → Carried
carried_after table last [] = last
carried_after table last (k ∷ ks) = carried_after table (declared table k (the table k)) ks

-- a strict column leaves a parameter as it is
abbrev is_loose : Affinity → Bool
is_loose affinity.Loose = true
is_loose _ = false

neither : (b : Bool) → (if b then affinity.None else affinity.None) ≡ affinity.None
neither true = refl
neither false = refl

pub one_less : (j : ℕ) → suc j - 1 ≡ j
one_less j = omega arith

next_place : (k : ℕ) → suc k ≡ k + 1
next_place k = omega arith

kind_tied : (k : Kind) → is_loose (of_kind k) ≡ false
kind_tied Kind.Integer = refl
kind_tied _ = refl

strict_tied : (c : Column) → c.is_strict ≡ true → is_loose (of_declared c) ≡ false
strict_tied c strict = rw strict (elim (is_filler c) as (λ b. is_loose (if b then affinity.None else of_kind c.kind) ≡ false) [ true ↦ refl | false ↦ kind_tied c.kind ])

keeps_column : (mine : Affinity) (t : Term) → converted mine affinity.None t ≡ t
unfolding pipeline
keeps_column affinity.None t = refl
keeps_column _ t = refl

keeps_parameter : (other : Affinity) (j : ℕ) → is_loose other ≡ false → converted affinity.None other (col 0 j) ≡ col 0 j
unfolding pipeline
keeps_parameter affinity.Loose j tied = absurd (cc)
keeps_parameter _ j tied = refl

-- a column, how it compares, and the place of a parameter
abbrev pub Test : Type 0
Test = ℕ × CompareOp × ℕ

abbrev pub written_by : CompareOp → binary_of.Binary
written_by compare.Eq = binary.Eq
written_by compare.Ne = binary.Ne
written_by compare.Lt = binary.Lt
written_by compare.Le = binary.Le
written_by compare.Gt = binary.Gt
written_by compare.Ge = binary.Ge

not_identity : (op : CompareOp) → is_identity (written_by op) ≡ false
not_identity compare.Eq = refl
not_identity _ = refl

combined : (cx : Context) (how : Collation) (op : CompareOp) (x y : Term) (s : State) → combine cx (written_by op) how x y s ≡ Ok (compared cx (by.Compare op how) x y, s)
unfolding pipeline
combined cx how compare.Eq x y s = refl
combined cx how _ x y s = refl

abbrev pub deep : ℕ → List Test → ℕ
deep d [] = d
deep d (p ∷ ps) = deep (suc d) ps

abbrev pub cost : ℕ → List Test → ℕ
cost c [] = c
cost c (p ∷ ps) = cost (c + 4) ps

abbrev pub places : List Test → List ℕ
places = map (λ p. p.0)

abbrev pub where_cost : List Test → ℕ
where_cost [] = 0
where_cost (p ∷ ps) = cost 3 ps

abbrev pub where_last : Carried → List Test → Carried
where_last last [] = last
where_last last (p ∷ ps) = nothing

abbrev pub FitsUnder : ℕ → List Test → Type 0
FitsUnder d [] = Unit
FitsUnder d (p ∷ ps) = deep (suc (suc d)) ps ≡ 700

module _ (table : Table) where
  abbrev pub how : ℕ → Collation
  how k = if is_key table.key k then Binary else (the table k).collation

  abbrev pub meets : Test → Term
  meets p = op2 (by.Compare p.1 (how p.0)) (col 1 (place_of table p.0)) (col 0 p.2)

  abbrev pub test_of : Test → Expr
  test_of p = roll-Expr (Expr-F.Binary (written_by p.1) (column (name_at table p.0)) (parameter (suc p.2)))

  abbrev pub both : Expr → List Test → Expr
  both e [] = e
  both e (p ∷ ps) = both (roll-Expr (Expr-F.Binary binary.And e (test_of p))) ps

  abbrev pub both_terms : Term → List Test → Term
  both_terms t [] = t
  both_terms t (p ∷ ps) = both_terms (op2 by.And t (meets p)) ps

  abbrev pub AreStrict : List Test → Type 0
  AreStrict ps = map (λ (p : Test). (the table p.0).is_strict) ps ≡ map (λ (p : Test). true) ps

  abbrev pub where_of : List Test → Option Expr
  where_of [] = None
  where_of (p ∷ ps) = Some (both (test_of p) ps)

  -- a column by which rows rise, or fall
  module _ (falls : Bool) where
    abbrev sort_of : ℕ → Sort
    sort_of k = roll-Sort (record { key = column (name_at table k); descending = falls; nulls_first = None })

    abbrev key_by : ℕ → Term × Key
    key_by k = (col 1 (place_of table k), record { collation = how k; descending = falls })

    abbrev order_of : List ℕ → List Sort
    order_of = map sort_of

    abbrev keys_by : List ℕ → List (Term × Key)
    keys_by = map key_by

module _ (schema : Schema) (title : Name) (at : ℕ) (table : Table) (has : HasTable schema title at table) where
  abbrev pub bound_here : Bound
  bound_here = record { name = title; table = at; slot = 1; shared = [] }

  pub heading_is : (shown : List Output) (may_aggregate may_alias : Bool) (name text : Name) (k : ℕ) (c : Column) → column_named table name ≡ Some k → slice_get table.columns k ≡ Some c
      → heading (scope schema title at shown may_aggregate may_alias) (column name) text ≡ c.name
  unfolding pipeline
  heading_is shown may_aggregate may_alias name text k c named there = rw (has.there, named, has.there, there)

  pub columns_lower : (ks : List ℕ) (b : ℕ) (done : List Output) (last : Carried) → length ks < b → IsFound table ks
      → outputs_from lower (scope schema title at [] true true) (bound_here ∷ []) done (map (λ k. one (name_at table k)) ks) (so_far 2 b last)
      ≡ Ok (done ++ map (output_at table) ks, so_far 2 (b - length ks) (carried_after table last ks))
  unfolding pipeline
  columns_lower [] b done last some found = let less : b ≡ b - 0 = omega arith in (λ i. Ok (sym (append-nil done) i, so_far 2 (less i) last))
  columns_lower (k ∷ ks) b done last some found =
      let parts = found_first table k ks found in
      let less : b - 1 - length ks ≡ b - suc (length ks) = omega arith in
      rw (
        column_lowers 699 schema title at table [] true true 2 b last has (lt-ltb 1 b (omega (arith, some))) (name_at table k) k (the table k) parts.0 parts.1,
        heading_is [] true true (name_at table k) (name_at table k) k (the table k) parts.0 parts.1,
      ) (columns_lower ks (b - 1) (done ++ output_at table k ∷ []) (declared table k (the table k)) (omega (arith, some)) parts.2
      ∙ (λ i. Ok (append_assoc done (output_at table k ∷ []) (map (output_at table) ks) i, so_far 2 (less i) (carried_after table (declared table k (the table k)) ks))))

  -- ---- comparisons

  chosen_is : (k : ℕ) → chosen (declared table k (the table k)) nothing ≡ how table k
  unfolding pipeline
  chosen_is k = elim (is_key table.key k) as (λ b. chosen (if b then nothing else record { collation = Some (the table k).collation; is_written = false }) nothing ≡ (if b then Binary else (the table k).collation)) [
    | true ↦ refl
    | false ↦ refl
  ]

  pub alone_is : (k : ℕ) → alone (declared table k (the table k)) ≡ how table k
  unfolding pipeline
  alone_is k = elim (is_key table.key k) as (λ b. alone (if b then nothing else record { collation = Some (the table k).collation; is_written = false }) ≡ (if b then Binary else (the table k).collation)) [
    | true ↦ refl
    | false ↦ refl
  ]

  place_tied : (k : ℕ) → slice_get table.columns k ≡ Some (the table k) → (the table k).is_strict ≡ true → is_loose (at_place schema at (place_of table k)) ≡ false
  place_tied k there strict = elim (is_key table.key k) as (λ b. is_loose (at_place schema at (if b then 0 else k + 1)) ≡ false) [
    | true ↦ refl
    | false ↦ subst (λ p. is_loose (at_place schema at p) ≡ false) (next_place k) (rw (has.there, there) (strict_tied (the table k) strict))
  ]

  compared_is : (shown : List Output) (may_aggregate may_alias : Bool) (op : BinaryOp) (k j : ℕ) → slice_get table.columns k ≡ Some (the table k) → (the table k).is_strict ≡ true
      → compared (scope schema title at shown may_aggregate may_alias) op (col 1 (place_of table k)) (col 0 j) ≡ op2 op (col 1 (place_of table k)) (col 0 j)
  unfolding pipeline
  compared_is shown may_aggregate may_alias op k j there strict = rw (
    neither (j == 0),
    keeps_column (at_place schema at (place_of table k)) (col 1 (place_of table k)),
    keeps_parameter (at_place schema at (place_of table k)) j (place_tied k there strict),
  )

  -- each column is compared with a parameter, whatever aggregates were met so far

  module _ (aggregates : List Aggregate) where
    pub test_lowers_with : (d : ℕ) (shown : List Output) (may_aggregate may_alias : Bool) (b : ℕ) (last : Carried) (p : Test) → 3 < b → IsFound table (p.0 ∷ []) → (the table p.0).is_strict ≡ true
        → lower_to (suc (suc d)) (scope schema title at shown may_aggregate may_alias) (test_of table p) (so_far_with aggregates 2 b last) ≡ Ok (meets table p, so_far_with aggregates 2 (b - 3) nothing)
    unfolding pipeline
    test_lowers_with d shown may_aggregate may_alias b last p some found strict =
        let parts = found_first table p.0 [] found in
        let less : b - 1 - 1 - 1 ≡ b - 3 = omega arith in
        rw (
          lower_step (suc d) (scope schema title at shown may_aggregate may_alias) (test_of table p) (so_far_with aggregates 2 b last),
          lt-ltb 1 b (omega (arith, some)),
          not_identity p.1,
          not_identity p.1,
          column_lowers_with d schema title at table shown may_aggregate may_alias 2 (b - 1) nothing has (lt-ltb 1 (b - 1) (omega (arith, some))) aggregates (name_at table p.0) p.0 (the table p.0) parts.0 parts.1,
          parameter_lowers_with d schema title at table shown may_aggregate may_alias 2 (b - 1 - 1) (declared table p.0 (the table p.0)) has (lt-ltb 1 (b - 1 - 1) (omega (arith, some))) aggregates (suc p.2),
          one_less p.2,
          chosen_is p.0,
          combined (scope schema title at shown may_aggregate may_alias) (how table p.0) p.1 (col 1 (place_of table p.0)) (col 0 p.2) (so_far_with aggregates 2 (b - 1 - 1 - 1) nothing),
          compared_is shown may_aggregate may_alias (by.Compare p.1 (how table p.0)) p.0 p.2 parts.1 strict,
        ) (λ i. Ok (meets table p, so_far_with aggregates 2 (less i) nothing))

    -- ---- several comparisons, all to hold

    abbrev LowersAt : ℕ → List Output → Expr → Term → ℕ → Type 0
    LowersAt d shown e t c = (b : ℕ) (last : Carried) → c < b → lower_to d (scope schema title at shown false true) e (so_far_with aggregates 2 b last) ≡ Ok (t, so_far_with aggregates 2 (b - c) nothing)

    and_lowers : (d : ℕ) (shown : List Output) (e : Expr) (t : Term) (c : ℕ) (p : Test) → IsFound table (p.0 ∷ []) → (the table p.0).is_strict ≡ true → LowersAt (suc (suc d)) shown e t c
        → LowersAt (suc (suc (suc d))) shown (roll-Expr (Expr-F.Binary binary.And e (test_of table p))) (op2 by.And t (meets table p)) (c + 4)
    unfolding pipeline
    and_lowers d shown e t c p found strict lowers b last some =
        let less : b - 1 - c - 3 ≡ b - (c + 4) = omega arith in
        rw (
          lower_step (suc (suc d)) (scope schema title at shown false true) (roll-Expr (Expr-F.Binary binary.And e (test_of table p))) (so_far_with aggregates 2 b last),
          lt-ltb 1 b (omega (arith, some)),
          lowers (b - 1) nothing (omega (arith, some)),
          test_lowers_with d shown false true (b - 1 - c) nothing p (omega (arith, some)) found strict,
        ) (λ i. Ok (op2 by.And t (meets table p), so_far_with aggregates 2 (less i) nothing))

    both_lower : (d : ℕ) (shown : List Output) (e : Expr) (t : Term) (c : ℕ) (ps : List Test) → IsFound table (places ps) → AreStrict table ps → LowersAt (suc (suc d)) shown e t c
        → LowersAt (deep (suc (suc d)) ps) shown (both table e ps) (both_terms table t ps) (cost c ps)
    both_lower d shown e t c [] found strict lowers = lowers
    both_lower d shown e t c (p ∷ ps) found strict lowers =
        let parts = found_first table p.0 (places ps) found in
        both_lower (suc d) shown (roll-Expr (Expr-F.Binary binary.And e (test_of table p))) (op2 by.And t (meets table p)) (c + 4) ps parts.2 (cc)
        (and_lowers d shown e t c p (λ i. (parts.0 i, parts.1 i) ∷ []) (cc) lowers)

    cut_both : (t : Term) (ps : List Test) → conjuncts (both_terms table t ps) ≡ conjuncts t ++ map (meets table) ps
    cut_both t [] = sym (append-nil (conjuncts t))
    cut_both t (p ∷ ps) = cut_both (op2 by.And t (meets table p)) ps ∙ append_assoc (conjuncts t) (meets table p ∷ []) (map (meets table) ps)

    -- WHERE

    -- the tests are no more than fit under the parser's height

    pub where_lowers_with : (d : ℕ) (shown : List Output) (ps : List Test) (b : ℕ) (last : Carried) → FitsUnder d ps → where_cost ps < b → IsFound table (places ps) → AreStrict table ps
        → tests lower (scope schema title at shown false true) [] (where_of table ps) (so_far_with aggregates 2 b last) ≡ Ok (map (meets table) ps, so_far_with aggregates 2 (b - where_cost ps) (where_last last ps))
    unfolding pipeline
    where_lowers_with d shown [] b last under some found strict = let less : b ≡ b - 0 = omega arith in (λ i. Ok ([], so_far_with aggregates 2 (less i) last))
    where_lowers_with d shown (p ∷ ps) b last under some found strict =
        let parts = found_first table p.0 (places ps) found in
        let all = both_lower d shown (test_of table p) (meets table p) 3 ps parts.2 (cc) (λ c l s. test_lowers_with d shown false true c l p s (λ i. (parts.0 i, parts.1 i) ∷ []) (cc)) in
        let whole = subst (λ n. LowersAt n shown (both table (test_of table p) ps) (both_terms table (meets table p) ps) (cost 3 ps)) under all in
        rw (whole b last some) (ap (λ ts. Ok (ts, so_far_with aggregates 2 (b - cost 3 ps) nothing)) (cut_both (meets table p) ps))

  pub test_lowers : (d : ℕ) (shown : List Output) (may_aggregate may_alias : Bool) (b : ℕ) (last : Carried) (p : Test) → 3 < b → IsFound table (p.0 ∷ []) → (the table p.0).is_strict ≡ true
      → lower_to (suc (suc d)) (scope schema title at shown may_aggregate may_alias) (test_of table p) (so_far 2 b last) ≡ Ok (meets table p, so_far 2 (b - 3) nothing)
  test_lowers = test_lowers_with []

  -- ---- ORDER BY columns

  no_alias : (name : Name) (ks : List ℕ) (from : ℕ) → position_from (λ (o : Output). o.is_alias && same_name o.name name) from (map (output_at table) ks) ≡ None
  no_alias name [] from = refl
  no_alias name (k ∷ ks) from = no_alias name ks (from + 1)

  order_from : (falls : Bool) (ks os : List ℕ) (done : List (Term × Key)) (b : ℕ) (last : Carried) → length os < b → IsFound table os
      → sorts_from lower (scope schema title at (map (output_at table) ks) false true) (map (output_at table) ks) done (order_of table falls os) (so_far 2 b last)
      ≡ Ok (done ++ keys_by table falls os, so_far 2 (b - length os) (carried_after table last os))
  unfolding pipeline
  order_from falls ks [] done b last some found = let less : b ≡ b - 0 = omega arith in (λ i. Ok (sym (append-nil done) i, so_far 2 (less i) last))
  order_from falls ks (o ∷ os) done b last some found =
      let parts = found_first table o os found in
      let less : b - 1 - length os ≡ b - suc (length os) = omega arith in
      rw (
        no_alias (name_at table o) ks 0,
        column_lowers 699 schema title at table (map (output_at table) ks) false true 2 b last has (lt-ltb 1 b (omega (arith, some))) (name_at table o) o (the table o) parts.0 parts.1,
        alone_is o,
      ) (order_from falls ks os (done ++ key_by table falls o ∷ []) (b - 1) (declared table o (the table o)) (omega (arith, some)) parts.2
      ∙ (λ i. Ok (append_assoc done (key_by table falls o ∷ []) (keys_by table falls os) i, so_far 2 (less i) (carried_after table (declared table o (the table o)) os))))

  order_lowers : (falls : Bool) (ks os : List ℕ) (b : ℕ) (last : Carried) → length os < b → IsFound table os
      → sorts lower (scope schema title at (map (output_at table) ks) false true) (map (output_at table) ks) (order_of table falls os) (so_far 2 b last) ≡ Ok (keys_by table falls os, so_far 2 (b - length os) (carried_after table last os))
  unfolding pipeline
  order_lowers falls ks os b last some found = order_from falls ks os [] b last some found

-- ---- a SELECT of one table: the columns it shows by their places, which columns equal which parameters, by which columns it sorts, and its LIMIT

pub record Asked : Type 0 where
  pub text : List ℕ
  pub parameters : List Name
  pub shown : List ℕ
  pub tests : List Test
  pub order : List ℕ
  pub limit : Option Expr
  pub upto : Term

module _ (title : Name) (table : Table) (q : Asked) where
  abbrev pub core_of : Core
  core_of = roll-Core (record { distinct = false; shown = map (λ k. one (name_at table k)) q.shown; from = from_table title ∷ []; filter = where_of table q.tests; group = []; having = None })

  abbrev pub terms_of : List Term
  terms_of = map (λ (o : Output). o.term) (map (output_at table) q.shown)

  abbrev pub names_of : List Name
  names_of = map (λ (o : Output). o.name) (map (output_at table) q.shown)

  abbrev pub tests_of : List Term
  tests_of = map (meets table) q.tests

  -- in an order in which each column rises, or each falls
  module _ (falls : Bool) where
    abbrev pub select_by : Select
    select_by = roll-Select (record { with = []; first = core_of; others = []; order = order_of table falls q.order; limit = q.limit; offset = None })

    abbrev pub parsed_by : Parsed
    parsed_by = record { statement = written.Select select_by; names = q.parameters; formats = []; start = 0; end = length q.text; tail = length q.text }

    abbrev pub query_by : Query
    query_by = record (plain_query table.tree tests_of terms_of) { order = keys_by table falls q.order; limit = q.upto }

    abbrev draft_by : Draft
    draft_by = record (simple (Inner table.tree ∷ []) tests_of terms_of) { order = keys_by table falls q.order; limit = q.upto }

    abbrev pub IsTypedBy : Row → Type 0
    IsTypedBy params = (are_tests params (row_classes table ∷ []) tests_of && (are_typed params (row_classes table ∷ []) terms_of && are_typed params (row_classes table ∷ []) (map (λ k. k.0) (keys_by table falls q.order)))
        && (is_count params q.upto && is_count params (lit (Int (pos 0))))) ≡ true

    -- what is to be seen of a table and a SELECT, each by `refl`
    pub record FitsBy : Type 0 where
      pub shown : IsFound table q.shown
      pub tests : IsFound table (places q.tests)
      pub strict : AreStrict table q.tests
      pub order : IsFound table q.order
      pub height : (d : ℕ) × FitsUnder d q.tests
      pub few : length q.shown + where_cost q.tests + length q.order < 99000
      pub limit : (schema : Schema) → constant_or schema (lit (Int (negsuc 0))) q.limit ≡ Ok q.upto
      pub read : first q.text ≡ Ok parsed_by
      pub typed : IsTypedBy []

module _ (schema : Schema) (title : Name) (at : ℕ) (table : Table) (has : HasTable schema title at table) (q : Asked) (falls : Bool) (fits : FitsBy title table q falls) where
  named_at : (core : Core) → out-Core core ≡ out-Core (core_of title table q)
      → named schema core (order_of table falls q.order) (q.upto, lit (Int (pos 0))) ≡ Ok (draft_by title table q falls, names_of title table q, map (λ (o : Output). o.carried.collation) (map (output_at table) q.shown))
  unfolding pipeline
  named_at core is =
      let rolled = is ∙ out-roll-Core (record { distinct = false; shown = map (λ k. one (name_at table k)) q.shown; from = from_table title ∷ []; filter = where_of table q.tests; group = []; having = None }) in
      let few = fits.few in
      rw (
        rolled,
        has.named,
        columns_lower schema title at table has q.shown 100000 [] nothing (omega (arith, few)) fits.shown,
        has.there,
        where_lowers_with schema title at table has [] fits.height.0 (map (output_at table) q.shown) q.tests (100000 - length q.shown) (carried_after table nothing q.shown) fits.height.1 (omega (arith, few)) fits.tests fits.strict,
        order_lowers schema title at table has falls q.shown q.order (100000 - length q.shown - where_cost q.tests) (where_last (carried_after table nothing q.shown) q.tests) (omega (arith, few)) fits.order,
      ) refl

  abbrev collations : List (Option Collation)
  collations = map (λ (o : Output). o.carried.collation) (map (output_at table) q.shown)

  abbrev layer : Core → Select-F Expr Shown Arm Core Select Sort Source
  layer core = record { with = []; first = core; others = []; order = order_of table falls q.order; limit = q.limit; offset = None }

  query_at : (core : Core) (s : Select) → out-Core core ≡ out-Core (core_of title table q) → out-Select s ≡ layer core → query schema s ≡ Ok ((draft_by title table q falls, names_of title table q, collations), [])
  unfolding pipeline
  query_at core s is whole =
      let rolled = is ∙ out-roll-Core (record { distinct = false; shown = map (λ k. one (name_at table k)) q.shown; from = from_table title ∷ []; filter = where_of table q.tests; group = []; having = None }) in
      rw (query_step 15 schema s [], whole, fits.limit schema, rolled, viewing_is (query_to 15) schema schema core (order_of table falls q.order) (q.upto, lit (Int (pos 0))) _ 63 [] (named_at core is)) refl

  program_is : accepts_program schema [] (query_by title table q falls) [] ≡ true → program schema [] (draft_by title table q falls) ≡ Ok (by_itself (query_by title table q falls))
  unfolding pipeline
  program_is typed = rw typed refl

  pub accepts_by : (params : Row) → IsTypedBy title table q falls params → accepts_program schema [] (query_by title table q falls) params ≡ true
  accepts_by params typed = rw (has.low, has.stands) typed

  planned_is : planned schema (parsed_by title table q falls) ≡ Ok ([], (command.Select (by_itself (query_by title table q falls)) (names_of title table q), None))
  unfolding Rattle.sqlite_resolve.specs.Compile.planned Rattle.sqlite_resolve.specs.Compile.meaning Rattle.sqlite_resolve.specs.Compile.returning Rattle.sqlite_resolve.specs.Compile.command Rattle.sqlite_resolve.specs.Compile.read Rattle.sqlite_resolve.specs.Compile.timed
  planned_is = rw (query_at (core_of title table q) (select_by title table q falls) refl (out-roll-Select (layer (core_of title table q))), program_is (accepts_by [] fits.typed)) refl

  pub compiles_by : CompilesTo schema q.text (parsed_by title table q falls) (command.Select (by_itself (query_by title table q falls)) (names_of title table q))
  compiles_by = compiles_to schema q.text (parsed_by title table q falls) _ fits.read planned_is

-- ---- in a rising order

module _ (title : Name) (table : Table) (q : Asked) where
  abbrev pub select_of : Select
  select_of = select_by title table q false

  abbrev pub parsed_of : Parsed
  parsed_of = parsed_by title table q false

  abbrev pub query_of : Query
  query_of = query_by title table q false

  abbrev pub IsTyped : Row → Type 0
  IsTyped = IsTypedBy title table q false

  abbrev pub Fits : Type 0
  Fits = FitsBy title table q false

pub accepts_is : (schema : Schema) (title : Name) (at : ℕ) (table : Table) → HasTable schema title at table → (q : Asked) → Fits title table q → (params : Row) → IsTyped title table q params → accepts_program schema [] (query_of title table q) params ≡ true
accepts_is schema title at table has q = accepts_by schema title at table has q false

pub compiles : (schema : Schema) (title : Name) (at : ℕ) (table : Table) → HasTable schema title at table → (q : Asked) → Fits title table q → CompilesTo schema q.text (parsed_of title table q) (command.Select (by_itself (query_of title table q)) (names_of title table q))
compiles schema title at table has q = compiles_by schema title at table has q false
