-- What the question for the version compiles to, over a schema with the project and over one without.
use Rattle.wu_schema.proofs.Words.{Bool, Column, Core, Draft, Err, HasProject, Inner, Int, IsFree, List, Name, NoSuchTable, None, Ok, Parsed, Query, Schema, Select, Some, Table, Term, [], accepts_program, arith, codes, col, compiled, declared, everything, false, first, if◌then◌else◌, is_key, is_some, length, lit, named, negsuc, nothing, pipeline, place_of, planned, pos, program, query, query_to, refl, roll-Core, roll-Select, row_classes, simple, suc, true, understood, version_text, viewing, ℕ, ◌+◌, ◌∷◌, ◌≡◌}
use Rattle.std.specs.Prelude.{slice_get}
use Rattle.sqlite.specs.Command.TheVariants as command
use Rattle.sqlite_ast.specs.declared.Statement.TheVariants as written
use Rattle.sqlite_typing.specs.Types.{class_in}
use Rattle.std.proofs.lemmas.Option.{slice_get-map}
use Rattle.sqlite_resolve.specs.Program.{Shown}
use Rattle.sqlite.specs.Listing.{listing_schema}
use Rattle.wu_schema.proofs.ExprLemmas.{column_lowers}
use Rattle.wu_schema.proofs.QueryLemmas.{plain_query, alone, viewing_is, query_step, one, from_table}
use Rattle.wu_schema.proofs.SelectLemmas.{CompilesTo, compiles_to}

abbrev version_core : Core
version_core = roll-Core (record { distinct = false; shown = one (codes "one") ∷ one (codes "version") ∷ one (codes "next_number") ∷ []; from = from_table (codes "project") ∷ []; filter = None; group = []; having = None })

abbrev pub version_select : Select
version_select = roll-Select (record { with = []; first = version_core; others = []; order = []; limit = None; offset = None })

abbrev pub version_parsed : Parsed
version_parsed = record { statement = written.Select version_select; names = []; formats = []; start = 0; end = length version_text; tail = length version_text }

pub version_first : first version_text ≡ Ok version_parsed
unfolding everything
version_first = refl

abbrev pub version_tests : List Term
version_tests = []

-- a column of a table has a class
column_typed : (table : Table) (at : ℕ) (column : Column) → slice_get table.columns at ≡ Some column → is_some (slice_get (row_classes table) (place_of table at)) ≡ true
column_typed table at column there = go (is_key table.key at)
  where
    go : (b : Bool) → is_some (slice_get (row_classes table) (if b then 0 else at + 1)) ≡ true
    go true = refl
    go false =
        let next : at + 1 ≡ suc at = omega arith in
        rw (next, slice_get-map class_in table.columns at, there) refl

-- any table of the name with the three columns
module _ (schema : Schema) (has : HasProject schema) where
  abbrev pub version_shows : List Term
  version_shows = col 1 (place_of has.table has.one.0) ∷ col 1 (place_of has.table has.version.0) ∷ col 1 (place_of has.table has.next_number.0) ∷ []

  abbrev pub version_names : List Name
  version_names = has.one.1.name ∷ has.version.1.name ∷ has.next_number.1.name ∷ []

  abbrev version_draft : Draft
  version_draft = simple (Inner has.table.tree ∷ []) version_tests version_shows

  abbrev pub version_query : Query
  version_query = plain_query has.table.tree version_tests version_shows

  abbrev version_shown : Shown
  version_shown = (version_draft, version_names, (declared has.table has.one.0 has.one.1).collation ∷ (declared has.table has.version.0 has.version.1).collation ∷ (declared has.table has.next_number.0 has.next_number.1).collation ∷ [])

  version_named : named schema version_core ([]) (lit (Int (negsuc 0)), lit (Int (pos 0))) ≡ Ok version_shown
  unfolding pipeline
  version_named = rw (
    has.found.named,
    column_lowers 699 schema (codes "project") has.at has.table [] true true 2 100000 nothing has.found refl (codes "one") has.one.0 has.one.1 has.one.2 has.one.3,
    column_lowers 699 schema (codes "project") has.at has.table [] true true 2 99999 (declared has.table has.one.0 has.one.1) has.found refl (codes "version") has.version.0 has.version.1 has.version.2 has.version.3,
    column_lowers 699 schema (codes "project") has.at has.table [] true true 2 99998 (declared has.table has.version.0 has.version.1) has.found refl (codes "next_number") has.next_number.0 has.next_number.1 has.next_number.2 has.next_number.3,
    has.found.there,
    has.one.2,
    has.found.there,
    has.one.3,
    has.version.2,
    has.found.there,
    has.version.3,
    has.next_number.2,
    has.found.there,
    has.next_number.3,
  )

  version_queried : query schema version_select ≡ Ok (version_shown, [])
  unfolding pipeline
  version_queried = rw (query_step 15 schema version_select [], viewing_is (query_to 15) schema schema version_core ([]) (lit (Int (negsuc 0)), lit (Int (pos 0))) _ 63 [] version_named)

  pub version_accepted : accepts_program schema [] version_query [] ≡ true
  version_accepted = rw (
    has.found.low,
    has.found.stands,
    column_typed has.table has.one.0 has.one.1 has.one.3,
    column_typed has.table has.version.0 has.version.1 has.version.3,
    column_typed has.table has.next_number.0 has.next_number.1 has.next_number.3,
  )

  version_planned : planned schema version_parsed ≡ Ok ([], (command.Select (alone version_query) version_names, None))
  unfolding Rattle.sqlite_resolve.specs.Compile.planned Rattle.sqlite_resolve.specs.Compile.meaning Rattle.sqlite_resolve.specs.Compile.returning Rattle.sqlite_resolve.specs.Compile.command Rattle.sqlite_resolve.specs.Compile.read Rattle.sqlite_resolve.specs.Compile.timed program
  version_planned = rw (version_queried, version_accepted)

  pub version_reads : CompilesTo schema version_text version_parsed (command.Select (alone version_query) version_names)
  version_reads = compiles_to schema version_text version_parsed _ version_first version_planned

-- ---- no table or view of the project's name

module _ (schema : Schema) (free : IsFree schema (codes "project")) where
  free_queried : query schema version_select ≡ Err NoSuchTable
  unfolding pipeline viewing
  free_queried = rw (query_step 15 schema version_select [], free.table, free.view)

  free_compiled : compiled schema version_text ≡ Err NoSuchTable
  unfolding compiled Rattle.sqlite_resolve.specs.Compile.planned Rattle.sqlite_resolve.specs.Compile.meaning Rattle.sqlite_resolve.specs.Compile.returning Rattle.sqlite_resolve.specs.Compile.command Rattle.sqlite_resolve.specs.Compile.read Rattle.sqlite_resolve.specs.Compile.timed
  free_compiled = rw (version_first, free_queried)

listing_free : IsFree listing_schema (codes "project")
unfolding listing_schema everything
listing_free = record { table = refl; index = refl; view = refl }

pub free_understood : (schema : Schema) → IsFree schema (codes "project") → understood schema version_text ≡ Err NoSuchTable
unfolding understood
free_understood schema free = rw (free_compiled schema free, free_compiled listing_schema listing_free)
