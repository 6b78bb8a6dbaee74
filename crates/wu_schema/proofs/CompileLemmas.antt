-- What a statement on one table compiles to, over any schema in which its name finds the table.
use Rattle.wu_schema.proofs.Words.{Command, Compiled, HasTable, Insert, List, Name, None, Ok, Option, Parsed, Rows, Schema, Table, [], command, compiled, false, first, meaning, new_rows, planned, reads_listing, refl, returning, small, timed, understood, with_command, ℕ, ◌+◌, ◌≡◌}
use Rattle.sqlite_schema.specs.declared.command.Source.{Source}
use Rattle.sqlite_schema.specs.declared.command.Returning.{Returning}
use Rattle.sqlite_ast.specs.declared.Conflict.TheVariants as conflict
use Rattle.sqlite_ast.specs.declared.Statement.TheVariants as written
use Rattle.sqlite_resolve.specs.Compile.{shows, insert, insert_or_abort}

pub understood_is : (schema : Schema) (text : List ℕ) (c : Compiled) → compiled schema text ≡ Ok c → (understood schema text ≡ Ok c) × (reads_listing schema text ≡ false)
unfolding understood
understood_is schema text c h = (rw h refl, rw h refl)

pub compiled_is : (schema : Schema) (text : List ℕ) (p : Parsed) (plan : List Name × (Command × Option Returning)) → first text ≡ Ok p → planned schema p ≡ Ok plan → compiled schema text ≡ Ok (with_command p plan)
unfolding compiled
compiled_is schema text p plan a b = rw (a, b) refl

abbrev pub insert_parsed : Name → List Name → Rows → List Name → ℕ → ℕ → ℕ → Parsed
insert_parsed name columns rows names from to tail = record { statement = written.Insert conflict.Abort name columns rows [] []; names = names; formats = []; start = from; end = to; tail = tail }

pub insert_planned : (schema : Schema) (names : List Name) (name : Name) (columns : List Name) (rows : Rows) (at : ℕ) (table : Table) (source : Source) (from to tail : ℕ)
    → HasTable schema name at table → new_rows schema table (small names + small table.stamps.formats) columns rows ≡ Ok source
    → planned schema (insert_parsed name columns rows names from to tail) ≡ Ok (table.stamps.formats, (Insert at source, None))
unfolding planned meaning command returning timed shows insert insert_or_abort
insert_planned schema names name columns rows at table source from to tail has made = rw (has.named, has.there, made) refl
