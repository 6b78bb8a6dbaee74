-- What a SELECT on two tables compiles to, over any schema in which their names find them.
use Rattle.wu_schema.proofs.Words.{Bool, Carried, Column, Context, Core, Draft, Expr, Expr-F, HasTable, Inner, Int, List, Name, None, Ok, Option, Parsed, Query, Row, Schema, Select, Some, Sort, Source, Term, Trees, [], accepts_program, ap, arith, codes, col, column_named, declared, false, first, inl, inr, length, lit, lower_to, map, named, negsuc, nothing, pipeline, place_of, planned, pos, program, query, query_to, refl, roll-Core, roll-Expr, roll-Select, row_classes, same_name, simple, slice_get, suc, sym, true, ℕ, ◌&&◌, ◌++◌, ◌-◌, ◌<◌, ◌∙◌, ◌∷◌, ◌≡◌}
use Rattle.std.proofs.lemmas.List.{append_assoc, append-nil}
use Rattle.std.proofs.lemmas.Bool.{lt-ltb}
use Rattle.sqlite_value.specs.declared.keys.Key.{Key}
use Rattle.sqlite_value.specs.declared.keys.Collation.{Collation}
use Rattle.sqlite_sql.specs.Query.{end, inner}
use Rattle.sqlite_sql.specs.Term.{op1}
use Rattle.sqlite_sql.specs.declared.ops.UnaryOp.TheVariants.{Length}
use Rattle.sqlite_ast.specs.declared.Core.{out-Core}
use Rattle.sqlite_ast.specs.declared.Expr.TheViews.{out-roll-Core, out-roll-Select}
use Rattle.sqlite_ast.specs.declared.Expr.TheOpen.{Core-F, Select-F, Shown-F}
use Rattle.sqlite_ast.specs.declared.Select.{out-Select}
use Rattle.sqlite_ast.specs.declared.Shown.{Shown, roll-Shown}
use Rattle.sqlite_ast.specs.declared.Arm.{Arm}
use Rattle.sqlite_ast.specs.declared.Statement.TheVariants as written
use Rattle.sqlite_schema.specs.declared.schema.Table.{Table}
use Rattle.sqlite_resolve.specs.declared.scope.Bound.{Bound}
use Rattle.sqlite_resolve.specs.declared.scope.Output.{Output}
use Rattle.sqlite_resolve.specs.Body.{heading, outputs_from, tests}
use Rattle.sqlite_resolve.specs.Expr.{lower}
use Rattle.sqlite_resolve.specs.Order.{sorts}
use Rattle.sqlite.specs.Command.TheVariants as command
use Rattle.sqlite.specs.Program.{ProgramOverflows}
use Rattle.sqlite_typing.specs.Types.{are_tests, are_typed, is_count}
use Rattle.wu_schema.proofs.ExprLemmas.{lower_step, so_far}
use Rattle.wu_schema.proofs.QueryLemmas.{alone, from_table, plain_query, query_step, viewing_is}
use Rattle.wu_schema.proofs.SelectLemmas.{CompilesTo, compiles_to, the}

-- of two tables each pair of rows that passes the tests, in an order
abbrev pub joined_query : ℕ → ℕ → List Term → List Term → List (Term × Key) → Query
joined_query one other filter project order = record (plain_query one filter project) { from = inner one (inner other end); order = order }

-- a column, by its place: of the first table, of the first table with its name before it, or of the second
pub data Cell : Type 0 where
  own : ℕ → Cell
  told : ℕ → Cell
  met : ℕ → Cell

-- what is shown: a column, or its length
pub data Item : Type 0 where
  plain : Cell → Item
  length_of : Cell → Item

-- how much of the budget the list takes
abbrev pub cost : List Item → ℕ
cost [] = 0
cost (plain c ∷ more) = suc (cost more)
cost (length_of c ∷ more) = suc (suc (cost more))

-- the first table of FROM
abbrev here : Name → ℕ → Bound
here title at = record { name = title; table = at; slot = 1; shared = [] }

-- the second table of FROM
abbrev beside : Name → ℕ → Bound
beside title at = record { name = title; table = at; slot = 2; shared = [] }

-- two tables stand in FROM
abbrev pub scope_of_two : Schema → Name → Name → ℕ → ℕ → List Output → Bool → Bool → Context
scope_of_two schema title other at there shown may_aggregate may_alias =
    record { schema = schema; levels = record { tables = here title at ∷ beside other there ∷ []; shown = shown } ∷ []; may_aggregate = may_aggregate; may_alias = may_alias }

module _ (title other : Name) (table joined : Table) where
  -- the column itself
  abbrev pub column_of : Cell → Column
  column_of (own k) = the table k
  column_of (told k) = the table k
  column_of (met k) = the joined k

  -- where its value stands
  abbrev pub term_of : Cell → Term
  term_of (own k) = col 1 (place_of table k)
  term_of (told k) = col 1 (place_of table k)
  term_of (met k) = col 2 (place_of joined k)

  -- how it compares
  abbrev pub carried_of : Cell → Carried
  carried_of (own k) = declared table k (the table k)
  carried_of (told k) = declared table k (the table k)
  carried_of (met k) = declared joined k (the joined k)

  -- the expression that names it
  abbrev pub written_of : Cell → Expr
  written_of (own k) = roll-Expr (Expr-F.Column None (the table k).name)
  written_of (told k) = roll-Expr (Expr-F.Column (Some title) (the table k).name)
  written_of (met k) = roll-Expr (Expr-F.Column None (the joined k).name)

  -- how it is written
  abbrev pub text_of : Cell → Name
  text_of (own k) = (the table k).name
  text_of (told k) = title ++ codes "." ++ (the table k).name
  text_of (met k) = (the joined k).name

  -- the name finds this column alone
  abbrev pub Finds : Cell → Type 0
  Finds (own k) = (column_named table (the table k).name ≡ Some k) × (column_named joined (the table k).name ≡ None) × (slice_get table.columns k ≡ Some (the table k))
  Finds (told k) = (same_name title title ≡ true) × (same_name other title ≡ false) × (column_named table (the table k).name ≡ Some k) × (slice_get table.columns k ≡ Some (the table k))
  Finds (met k) = (column_named table (the joined k).name ≡ None) × (column_named joined (the joined k).name ≡ Some k) × (slice_get joined.columns k ≡ Some (the joined k))

  -- the column that is shown, or whose length is
  abbrev pub cell_of : Item → Cell
  cell_of (plain c) = c
  cell_of (length_of c) = c

  -- where each name is found, in the table of its column and in the other, which column stands there, and which table a
  -- name before it means
  abbrev Sight : Type 0
  Sight = Option ℕ × (Option ℕ × (Option Column × (Bool × Bool)))

  abbrev seen : Cell → Sight
  seen (own k) = (column_named table (the table k).name, (column_named joined (the table k).name, (slice_get table.columns k, (true, false))))
  seen (told k) = (column_named table (the table k).name, (None, (slice_get table.columns k, (same_name title title, same_name other title))))
  seen (met k) = (column_named joined (the joined k).name, (column_named table (the joined k).name, (slice_get joined.columns k, (true, false))))

  abbrev place_in : Cell → ℕ
  place_in (own k) = k
  place_in (told k) = k
  place_in (met k) = k

  abbrev sought : Cell → Sight
  sought c = (Some (place_in c), (None, (Some (column_of c), (true, false))))

  -- each name finds its column alone
  abbrev pub AllFound : List Item → Type 0
  AllFound items = map (λ i. seen (cell_of i)) items ≡ map (λ i. sought (cell_of i)) items

  pub finds : (c : Cell) → seen c ≡ sought c → Finds c
  finds (own k) e = (ap (λ (x : Sight). x.0) e, ap (λ (x : Sight). x.1.0) e, ap (λ (x : Sight). x.1.1.0) e)
  finds (told k) e = (ap (λ (x : Sight). x.1.1.1.0) e, ap (λ (x : Sight). x.1.1.1.1) e, ap (λ (x : Sight). x.0) e, ap (λ (x : Sight). x.1.1.0) e)
  finds (met k) e = (ap (λ (x : Sight). x.1.0) e, ap (λ (x : Sight). x.0) e, ap (λ (x : Sight). x.1.1.0) e)

  found_first : (i : Item) (more : List Item) → AllFound (i ∷ more) → Finds (cell_of i) × AllFound more
  found_first i more h = (finds (cell_of i) (cc), cc)

  -- what is written of it behind SELECT
  abbrev pub shown_of : Item → Shown
  shown_of (plain c) = roll-Shown (Shown-F.One (written_of c) None (text_of c))
  shown_of (length_of c) = roll-Shown (Shown-F.One (roll-Expr (Expr-F.Call (codes "length") false (written_of c ∷ []))) None (codes "length(" ++ text_of c ++ codes ")"))

  -- the column of the answer
  abbrev pub output_of : Item → Output
  output_of (plain c) = record { name = (column_of c).name; is_alias = false; is_column = true; term = term_of c; carried = carried_of c }
  output_of (length_of c) = record { name = codes "length(" ++ text_of c ++ codes ")"; is_alias = false; is_column = false; term = op1 Length (term_of c); carried = nothing }

  -- what it leaves as read last
  abbrev item_last : Item → Carried
  item_last (plain c) = carried_of c
  item_last (length_of c) = nothing

  -- what a list of them leaves as read last
  abbrev pub last_of : Carried → List Item → Carried
  last_of last [] = last
  last_of last (i ∷ more) = last_of (item_last i) more

  module _ (schema : Schema) (at there : ℕ) (has : HasTable schema title at table) (has_other : HasTable schema other there joined) where
    -- the scope of the two tables
    abbrev cx_of : List Output → Bool → Context
    cx_of shown may_aggregate = scope_of_two schema title other at there shown may_aggregate true

    -- a column lowers to its term
    pub cell_lowers : (d : ℕ) (shown : List Output) (may_aggregate : Bool) (b : ℕ) (last : Carried) (c : Cell) → 1 < b → Finds c
        → lower_to (suc d) (cx_of shown may_aggregate) (written_of c) (so_far 3 b last) ≡ Ok (term_of c, so_far 3 (b - 1) (carried_of c))
    unfolding pipeline lower_to
    cell_lowers d shown may_aggregate b last (own k) some found = rw (lt-ltb 1 b some, has.there, found.0, has_other.there, found.1, has.there, found.2) refl
    cell_lowers d shown may_aggregate b last (told k) some found = rw (lt-ltb 1 b some, found.0, found.1, has.there, found.2, has.there, found.3) refl
    cell_lowers d shown may_aggregate b last (met k) some found = rw (lt-ltb 1 b some, has.there, found.0, has_other.there, found.1, has_other.there, found.2) refl

    -- it has the name that it was declared with
    heading_is : (c : Cell) (text : Name) → Finds c → heading (cx_of [] true) (written_of c) text ≡ (column_of c).name
    unfolding pipeline
    heading_is (own k) text found = rw (has.there, found.0, has_other.there, found.1, has.there, found.2) refl
    heading_is (told k) text found = rw (found.0, found.1, has.there, found.2, has.there, found.3) refl
    heading_is (met k) text found = rw (has.there, found.0, has_other.there, found.1, has_other.there, found.2) refl

    item_lowers : (b : ℕ) (done : List Output) (last : Carried) (i : Item) (more : List Item) → cost (i ∷ more) < b → Finds (cell_of i)
        → outputs_from lower (cx_of [] true) (here title at ∷ beside other there ∷ []) done (map shown_of (i ∷ more)) (so_far 3 b last)
        ≡ outputs_from lower (cx_of [] true) (here title at ∷ beside other there ∷ []) (done ++ output_of i ∷ []) (map shown_of more) (so_far 3 (b - cost (i ∷ [])) (item_last i))
    unfolding pipeline
    item_lowers b done last (plain (own k)) more some found = rw (cell_lowers 699 [] true b last (own k) (omega (arith, some)) found, heading_is (own k) (text_of (own k)) found) refl
    item_lowers b done last (plain (told k)) more some found = rw (cell_lowers 699 [] true b last (told k) (omega (arith, some)) found, heading_is (told k) (text_of (told k)) found) refl
    item_lowers b done last (plain (met k)) more some found = rw (cell_lowers 699 [] true b last (met k) (omega (arith, some)) found, heading_is (met k) (text_of (met k)) found) refl
    item_lowers b done last (length_of c) more some found =
        let less : b - 1 - 1 ≡ b - 2 = omega arith in
        rw (
          lower_step 699 (cx_of [] true) (roll-Expr (Expr-F.Call (codes "length") false (written_of c ∷ []))) (so_far 3 b last),
          lt-ltb 1 b (omega (arith, some)),
          cell_lowers 698 [] true (b - 1) nothing c (omega (arith, some)) found,
        ) (λ i. outputs_from lower (cx_of [] true) (here title at ∷ beside other there ∷ []) (done ++ output_of (length_of c) ∷ []) (map shown_of more) (so_far 3 (less i) nothing))

    -- all that is shown
    pub outputs_lower : (items : List Item) (b : ℕ) (done : List Output) (last : Carried) → cost items < b → AllFound items
        → outputs_from lower (cx_of [] true) (here title at ∷ beside other there ∷ []) done (map shown_of items) (so_far 3 b last)
        ≡ Ok (done ++ map output_of items, so_far 3 (b - cost items) (last_of last items))
    outputs_lower [] b done last some found = let less : b ≡ b - 0 = omega arith in (λ i. Ok (sym (append-nil done) i, so_far 3 (less i) last))
    outputs_lower (i ∷ more) b done last some found =
        let parts = spent i more b some in
        let both = found_first i more found in
        item_lowers b done last i more some both.0
        ∙ outputs_lower more (b - cost (i ∷ [])) (done ++ output_of i ∷ []) (item_last i) parts.0 both.1
        ∙ (λ j. Ok (append_assoc done (output_of i ∷ []) (map output_of more) j, so_far 3 (parts.1 j) (last_of (item_last i) more)))
      where
        spent : (i : Item) (more : List Item) (b : ℕ) → cost (i ∷ more) < b → (cost more < b - cost (i ∷ [])) × (b - cost (i ∷ []) - cost more ≡ b - cost (i ∷ more))
        spent (plain c) more b some = (omega (arith, some), omega arith)
        spent (length_of c) more b some = (omega (arith, some), omega arith)

-- ---- a SELECT of two tables

-- its text, what it shows, its test as it is written and as it is meant, and its order in both forms
pub record AskedOfTwo : Type 0 where
  pub text : List ℕ
  pub items : List Item
  pub filter : Expr
  pub tests : List Term
  pub sorts : List Sort
  pub order : List (Term × Key)

module _ (title other : Name) (table joined : Table) (q : AskedOfTwo) where
  abbrev core_layer : Core-F Expr Shown Arm Core Select Sort Source
  core_layer = record { distinct = false; shown = map (shown_of title other table joined) q.items; from = from_table title ∷ from_table other ∷ []; filter = Some q.filter; group = []; having = None }

  abbrev core_of : Core
  core_of = roll-Core core_layer

  abbrev layer_of : Core → Select-F Expr Shown Arm Core Select Sort Source
  layer_of core = record { with = []; first = core; others = []; order = q.sorts; limit = None; offset = None }

  abbrev pub select_of : Select
  select_of = roll-Select (layer_of core_of)

  -- what is read of the text
  abbrev pub parsed_of : Parsed
  parsed_of = record { statement = written.Select select_of; names = []; formats = []; start = 0; end = length q.text; tail = length q.text }

  -- the columns of the answer
  abbrev pub outputs_of : List Output
  outputs_of = map (output_of title other table joined) q.items

  abbrev pub terms_of : List Term
  terms_of = map (λ (o : Output). o.term) outputs_of

  abbrev pub names_of : List Name
  names_of = map (λ (o : Output). o.name) outputs_of

  -- what it asks
  abbrev pub query_of : Query
  query_of = joined_query table.tree joined.tree q.tests terms_of q.order

  abbrev draft_of : Draft
  draft_of = record (simple (Inner table.tree ∷ Inner joined.tree ∷ []) q.tests terms_of) { order = q.order }

  -- each term fits the kinds of the columns that it reads
  abbrev pub IsTyped : Type 0
  IsTyped = (are_tests [] (row_classes table ∷ row_classes joined ∷ []) q.tests && (are_typed [] (row_classes table ∷ row_classes joined ∷ []) terms_of && are_typed [] (row_classes table ∷ row_classes joined ∷ []) (map (λ k. k.0) q.order))
      && (is_count [] (lit (Int (negsuc 0))) && is_count [] (lit (Int (pos 0))))) ≡ true

  abbrev collations : List (Option Collation)
  collations = map (λ (o : Output). o.carried.collation) outputs_of

  module _ (schema : Schema) (at there : ℕ) (has : HasTable schema title at table) (has_other : HasTable schema other there joined) where
    -- as the columns of the result are known
    abbrev pub later_cx : Context
    later_cx = scope_of_two schema title other at there outputs_of false true

    -- what is known of each part
    pub record FitsTwo : Type 0 where
      pub few : cost q.items < 100000
      pub found : AllFound title other table joined q.items
      -- how much is left behind WHERE and behind ORDER BY, and what was read last
      pub left : ℕ
      pub last : Carried
      pub filtered : tests lower later_cx [] (Some q.filter) (so_far 3 (100000 - cost q.items) (last_of title other table joined nothing q.items)) ≡ Ok (q.tests, so_far 3 left last)
      pub ends_left : ℕ
      pub ends_last : Carried
      pub sorted : sorts lower later_cx outputs_of q.sorts (so_far 3 left last) ≡ Ok (q.order, so_far 3 ends_left ends_last)
      pub typed : IsTyped
      pub read : first q.text ≡ Ok parsed_of

    module _ (fits : FitsTwo) where
      named_at : (core : Core) → out-Core core ≡ out-Core core_of → named schema core q.sorts (lit (Int (negsuc 0)), lit (Int (pos 0))) ≡ Ok (draft_of, names_of, collations)
      unfolding pipeline
      named_at core is =
          let rolled = is ∙ out-roll-Core core_layer in
          rw (
            rolled,
            has.named,
            has_other.named,
            outputs_lower title other table joined schema at there has has_other q.items 100000 [] nothing fits.few fits.found,
            has.there,
            has_other.there,
            fits.filtered,
            fits.sorted,
          ) refl

      query_at : (core : Core) (s : Select) → out-Core core ≡ out-Core core_of → out-Select s ≡ layer_of core → query schema s ≡ Ok ((draft_of, names_of, collations), [])
      unfolding pipeline
      query_at core s is whole =
          let rolled = is ∙ out-roll-Core core_layer in
          rw (query_step 15 schema s [], whole, rolled, viewing_is (query_to 15) schema schema core q.sorts (lit (Int (negsuc 0)), lit (Int (pos 0))) _ 63 [] (named_at core is)) refl

      -- the query fits the kinds of the columns
      pub accepts_two : accepts_program schema [] query_of [] ≡ true
      accepts_two = rw (has.low, has.stands, has_other.low, has_other.stands) fits.typed

      program_is : program schema [] draft_of ≡ Ok (alone query_of)
      unfolding program
      program_is = rw accepts_two refl

      planned_is : planned schema parsed_of ≡ Ok ([], (command.Select (alone query_of) names_of, None))
      unfolding Rattle.sqlite_resolve.specs.Compile.planned Rattle.sqlite_resolve.specs.Compile.meaning Rattle.sqlite_resolve.specs.Compile.returning Rattle.sqlite_resolve.specs.Compile.command Rattle.sqlite_resolve.specs.Compile.read Rattle.sqlite_resolve.specs.Compile.timed
      planned_is = rw (query_at core_of select_of refl (out-roll-Select (layer_of core_of)), program_is) refl

      -- what the text compiles to
      pub compiles_two : CompilesTo schema q.text parsed_of (command.Select (alone query_of) names_of)
      compiles_two = compiles_to schema q.text parsed_of _ fits.read planned_is

-- ---- such a query may always be answered, whole

-- it has no sums
pub never_over_two : (one other : ℕ) (filter project : List Term) (order : List (Term × Key)) (db : Trees) (params : Row) → ¬ ProgramOverflows db params [] [] (joined_query one other filter project order)
never_over_two one other filter project order db params (inl sums) = absurd sums
never_over_two one other filter project order db params (inr folds) = absurd folds.4.4
