-- A table that is made leaves the others where they are.
use Rattle.wu_schema.proofs.Words.{Bool, Checked, CreateTable, Err, HasTable, IsFree, List, None, Ok, Parsed, Schema, Some, Statement, Table, [], ap, arith, command, cond, create_table, false, got_still, is_attached, is_reserved, length, meaning, not, option_or, planned, position_from, refl, returning, same_name, timed, true, ℕ, ◌&&◌, ◌++◌, ◌+◌, ◌==◌, ◌∙◌, ◌∷◌, ◌≡◌}
use Rattle.std.proofs.lemmas.List.Folds.{find-append}
use Rattle.sqlite.specs.Change.{created}
use Rattle.sqlite_resolve.specs.Define as define
use Rattle.sqlite_resolve.specs.Compile.{creates}
use Rattle.sqlite_ast.specs.declared.Statement.TheVariants as written
use Rattle.sqlite.specs.Command.TheVariants.{CreateTable as Make}

-- the first place in a list that is followed by another
pub placed_append : {X : Type 0} (p : X → Bool) (from : ℕ) (xs ys : List X) → position_from p from (xs ++ ys) ≡ option_or (position_from p from xs) (position_from p (from + length xs) ys)
placed_append p from [] ys = let e : from ≡ from + 0 = omega arith in ap (λ n. position_from p n ys) e
placed_append p from (x ∷ xs) ys =
    let e : from + 1 + length xs ≡ from + length (x ∷ xs) = omega arith in
    elim (p x) as (λ b. cond b (Some from) (position_from p (from + 1) (xs ++ ys)) ≡ option_or (cond b (Some from) (position_from p (from + 1) xs)) (position_from p (from + length (x ∷ xs)) ys)) [
      | true ↦ refl
      | false ↦ placed_append p (from + 1) xs ys ∙ ap (λ n. option_or (position_from p (from + 1) xs) (position_from p n ys)) e
    ]

pub keeps_table : (schema : Schema) (made table : Table) (name : List ℕ) (at : ℕ) → HasTable schema name at table → HasTable (created schema made) name at table
keeps_table schema made table name at has = record {
  named = placed_append (λ t. same_name t.name name) 0 schema.tables _ ∙ rw has.named refl;
  there = got_still schema.tables _ _ at table refl has.there;
  low = has.low;
  stands = find-append (λ t. t.tree == table.tree) schema.tables _ ∙ rw has.stands refl;
}

-- ---- what the text compiles to, where the name is free

pub create_planned : (schema : Schema) (def : CreateTable) (t : Table) (q : Parsed) → q.statement ≡ written.CreateTable def → q.names ≡ [] → q.formats ≡ [] → IsFree schema def.name → is_reserved def.name ≡ false → define.table [] def ≡ Ok t
    → ((length t.computed == length t.stamps.places) && not def.resolves) ≡ true → planned schema q ≡ Ok ([], (Make, None))
unfolding planned meaning returning command timed create_table creates is_attached
create_planned schema def t q is nameless plain free open' defined whole = rw (is, plain, free.view, free.table, free.index, open', defined, whole)

abbrev pub def_by : Statement → CreateTable
def_by (written.CreateTable def) = def
def_by _ = record { if_missing = false; name = []; body = record { columns = []; rules = [] }; is_strict = false; resolves = false }

abbrev pub or_empty : Checked Parsed → Parsed
or_empty (Ok q) = q
or_empty (Err e) = record { statement = written.Empty; names = []; formats = []; start = 0; end = 0; tail = 0 }
