-- What an UPDATE of some columns, where others equal parameters, compiles to, over any schema and any table.
use Rattle.wu_schema.proofs.Words.{Context, Expr, Inner, HasTable, Int, List, Name, None, Ok, Parsed, Schema, Table, Term, Update, [], accepts_program, arith, col, false, first, length, lit, map, negsuc, nothing, pipeline, place_of, planned, pos, program, refl, row_classes, simple, suc, sym, true, ℕ, ⊤, ◌&&◌, ◌++◌, ◌+◌, ◌-◌, ◌<◌, ◌∙◌, ◌∷◌, ◌≡◌}
use Rattle.std.proofs.lemmas.List.{append_assoc, append-nil}
use Rattle.std.proofs.lemmas.Bool.{lt-ltb}
use Rattle.sqlite_ast.specs.declared.Statement.TheVariants as written
use Rattle.sqlite_resolve.specs.Write.{row, sets_from, updated, with_place}
use Rattle.sqlite_typing.specs.Types.{are_tests, are_typed, is_count}
use Rattle.wu_schema.proofs.ExprLemmas.{parameter, parameter_lowers, scope, so_far}
use Rattle.wu_schema.proofs.QueryLemmas.{alone, plain_query}
use Rattle.wu_schema.proofs.SelectLemmas.{AreStrict, CompilesTo, FitsUnder, IsFound, Test, compiles_to, meets, name_at, places, where_cost, where_lowers_with, where_of, one_less}

-- an UPDATE: its text, its parameters, the columns that it sets, to the parameters from the second on, and its tests
pub record SetBy : Type 0 where
  pub text : List ℕ
  pub parameters : List Name
  pub columns : List ℕ
  pub tests : List Test
  -- the old rowid, and then the new row
  pub made : List Term

-- each column is set to the parameter at a place, from this one on
abbrev pub assigns_from : Table → ℕ → List ℕ → List (Name × Expr)
assigns_from table j [] = []
assigns_from table j (k ∷ ks) = (name_at table k, parameter (suc j)) ∷ assigns_from table (suc j) ks

abbrev pub values_from : ℕ → List ℕ → List Term
values_from j [] = []
values_from j (k ∷ ks) = col 0 j ∷ values_from (suc j) ks

-- the names find these columns, none twice
abbrev pub ArePlaced : Table → List ℕ → List ℕ → Type 0
ArePlaced table done [] = ⊤
ArePlaced table done (k ∷ ks) = (with_place table done (name_at table k) ≡ Ok (done ++ place_of table k ∷ [])) × ArePlaced table (done ++ place_of table k ∷ []) ks

module _ (table : Table) (first_value : ℕ) (q : SetBy) where
  abbrev pub set_parsed : Parsed
  set_parsed = record { statement = written.Update table.name (assigns_from table first_value q.columns) (where_of table q.tests) []; names = q.parameters; formats = []; start = 0; end = length q.text; tail = length q.text }

  abbrev pub set_tests : List Term
  set_tests = map (meets table) q.tests

  -- what is to be seen of a table and an UPDATE, each by `refl`
  pub record SetFits : Type 0 where
    pub read : first q.text ≡ Ok set_parsed
    pub placed : ArePlaced table [] q.columns
    pub row_is : row table None (map (place_of table) q.columns) (col 1 0 ∷ []) (values_from first_value q.columns) ≡ Ok q.made
    pub tests : IsFound table (places q.tests)
    pub strict : AreStrict table q.tests
    pub height : (d : ℕ) × FitsUnder d q.tests
    pub few : length q.columns + where_cost q.tests < 99000
    pub typed : (are_tests [] (row_classes table ∷ []) set_tests && (are_typed [] (row_classes table ∷ []) q.made && are_typed [] (row_classes table ∷ []) [])
        && (is_count [] (lit (Int (negsuc 0))) && is_count [] (lit (Int (pos 0))))) ≡ true

module _ (schema : Schema) (at : ℕ) (table : Table) (has : HasTable schema table.name at table) (from : ℕ) (q : SetBy) (fits : SetFits table from q) where
  abbrev here : Context
  here = scope schema table.name at [] false true

  sets_lower : (ks : List ℕ) (j b : ℕ) (done : List ℕ) (terms : List Term) → length ks < b → ArePlaced table done ks
      → sets_from here table (done, terms) (assigns_from table j ks) (so_far 2 b nothing) ≡ Ok ((done ++ map (place_of table) ks, terms ++ values_from j ks), so_far 2 (b - length ks) nothing)
  unfolding pipeline
  sets_lower [] j b done terms some placed = let less : b ≡ b - 0 = omega arith in (λ i. Ok ((sym (append-nil done) i, sym (append-nil terms) i), so_far 2 (less i) nothing))
  sets_lower (k ∷ ks) j b done terms some placed =
      let less : b - 1 - length ks ≡ b - suc (length ks) = omega arith in
      rw (
        placed.0,
        parameter_lowers 699 schema table.name at table [] false true 2 b nothing has (lt-ltb 1 b (omega (arith, some))) (suc j),
        one_less j,
      ) (sets_lower ks (suc j) (b - 1) (done ++ place_of table k ∷ []) (terms ++ col 0 j ∷ []) (omega (arith, some)) placed.1
      ∙ (λ i. Ok ((append_assoc done (place_of table k ∷ []) (map (place_of table) ks) i, append_assoc terms (col 0 j ∷ []) (values_from (suc j) ks) i), so_far 2 (less i) nothing)))

  set_drafted : updated schema at table (assigns_from table from q.columns) (where_of table q.tests) ≡ Ok (simple (Inner table.tree ∷ []) (set_tests table from q) q.made)
  unfolding pipeline
  set_drafted =
      let few = fits.few in
      rw (
        sets_lower q.columns from 100000 [] [] (omega (arith, few)) fits.placed,
        fits.row_is,
        where_lowers_with schema table.name at table has [] fits.height.0 [] q.tests (100000 - length q.columns) nothing fits.height.1 (omega (arith, few)) fits.tests fits.strict,
      ) refl

  typed_is : accepts_program schema [] (plain_query table.tree (set_tests table from q) q.made) [] ≡ true
  typed_is = rw (has.low, has.stands) fits.typed

  program_is : program schema [] (simple (Inner table.tree ∷ []) (set_tests table from q) q.made) ≡ Ok (alone (plain_query table.tree (set_tests table from q) q.made))
  unfolding pipeline
  program_is = rw typed_is refl

  set_planned : planned schema (set_parsed table from q) ≡ Ok ([], (Update at (alone (plain_query table.tree (set_tests table from q) q.made)), None))
  unfolding Rattle.sqlite_resolve.specs.Compile.planned Rattle.sqlite_resolve.specs.Compile.meaning Rattle.sqlite_resolve.specs.Compile.returning Rattle.sqlite_resolve.specs.Compile.command Rattle.sqlite_resolve.specs.Compile.update Rattle.sqlite_resolve.specs.Compile.timed Rattle.sqlite_resolve.specs.Compile.shows
  set_planned = rw (has.named, has.there, set_drafted, program_is) refl

  pub set_compiles : CompilesTo schema q.text (set_parsed table from q) (Update at (alone (plain_query table.tree (set_tests table from q) q.made)))
  set_compiles = compiles_to schema q.text (set_parsed table from q) _ fits.read set_planned
