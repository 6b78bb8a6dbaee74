-- What the reads ask of a world.
use Rattle.std.specs.Prelude.{◌≡◌, ℕ, ◌-◌, zero, suc, ◌==◌, ◌<◌, nat_lt, List, [], ◌∷◌, ◌++◌, IfOk, IsSome, length, option_to_list, map, filter, find, bytes_eq, Bool, Option, None, Some, option_map, Result}
use Rattle.std.specs.List.{list_any}
use Rattle.std.specs.Option.{option_map_or}
use Rattle.sqlite.specs.Held.{Held, state}
use Rattle.sqlite.specs.Order.{Row}
use Rattle.sqlite.specs.State.{HasCleanDisk, Shown}
use Rattle.sqlite.specs.Store.{Ghosts}
use Rattle.wu_core.specs.declared.fault.Fault.{Fault}
use Rattle.wu_core.specs.declared.workunit.Workunit.{Workunit}
use Rattle.wu_core.specs.declared.workunit.Archived.{Archived}
use Rattle.wu_core.specs.declared.import.ImportKind.{ImportKind}
use Rattle.wu_core.specs.World.{World, is_import}
use Rattle.wu_schema.specs.Stored.{number, kept_cells, instance_row, workunit_row}

-- Whether a workunit of this name is present.
abbrev pub has_name : List ℕ → World → Bool
has_name name world = list_any (λ (w : Workunit). bytes_eq w.name name) world.workunits

-- Whether a workunit of this name was archived.
abbrev pub was_archived : List ℕ → World → Bool
was_archived name world = list_any (λ (a : Archived). bytes_eq a.name name) world.archived

-- The row of what is kept of the import of this kind and name; no row without one.
abbrev pub kept_of : ImportKind → List ℕ → World → List Row
kept_of kind name world = map kept_cells (filter (is_import kind name) world.imports)

-- The row of the project's next number.
abbrev pub next_row : World → Row
next_row world = number world.next_number ∷ []

-- The workunit of this number, if it is present, and its row.
abbrev pub numbered : ℕ → World → Option Workunit
numbered number world = find (λ (w : Workunit). w.number == number) world.workunits

abbrev pub row_numbered : ℕ → World → Option Row
row_numbered number world = option_map workunit_row (numbered number world)

-- The workunit of this name, if it is present, and its row.
abbrev pub named : List ℕ → World → Option Workunit
named name world = find (λ (w : Workunit). bytes_eq w.name name) world.workunits

abbrev pub row_named : List ℕ → World → Option Row
row_named name world = option_map workunit_row (named name world)

-- The first workunit above this number; `None` without one.
abbrev pub first_above : ℕ → World → Option Workunit
first_above number world = find (λ (w : Workunit). nat_lt number w.number) world.workunits

-- All workunits above this number, in order of number.
abbrev pub all_above : ℕ → World → List Workunit
all_above number world = filter (λ (w : Workunit). nat_lt number w.number) world.workunits

-- The row of the first workunit above this number; `None` without one.
abbrev pub row_above : ℕ → World → Option Row
row_above number world = option_map workunit_row (first_above number world)

-- The rows of the instances of the workunit of this number, in order; no row without it.
abbrev pub instance_rows_of : ℕ → World → List Row
instance_rows_of number world = option_map_or (λ (w : Workunit). map instance_row w.instances) (numbered number world) []

-- The row of the last of so many places, which are counted from 1; `None` if there is no place.
abbrev pub last_of : ℕ → Option Row
last_of zero = None
last_of (suc n) = Some (number (suc n) ∷ [])

-- The row of the last place before this one; `None` if this is the first.
abbrev pub row_before : ℕ → Option Row
row_before place = last_of (place - 1)

-- The row of the last place of a list; `None` if it is empty.
abbrev pub last_place : {X : Type 0} → List X → Option Row
last_place xs = last_of (length xs)

-- The row of the place of the last grant; `None` without a grant.
abbrev pub last_grant : World → Option Row
last_grant world = last_place world.grants

-- The row of the place of the last archived row; `None` without one.
abbrev pub last_archived : World → Option Row
last_archived world = last_place world.archived

-- ---- the last row of an answer

-- What is taken from the end of these rows: the last one, or `None` if there is no row.
pub record IsLastOf (rows : List Row) (taken : Option Row) : Type 0 where
  pub rest : List Row
  pub parts : rows ≡ rest ++ option_to_list taken
  pub some : 0 < length rows → IsSome taken

-- On a clean disk, an answer is the last row of the question's rows.
abbrev pub ShowsLast : {S : Type 0} → Ghosts S → Held S → Held S → Result (Option Row) Fault → List ℕ → Row → Type 0
ShowsLast g old new result sql params =
    HasCleanDisk (state g new) → IfOk result (λ taken. (rows : List Row) × Shown sql params (state g old) (state g new) rows × IsLastOf rows taken)
