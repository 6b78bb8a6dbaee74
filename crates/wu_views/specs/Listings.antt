-- What a view lists: its question, and the rows of the answer, of a world with classes.
use Rattle.std.specs.Prelude.{◌≡◌, ℕ, List, [], ◌∷◌, ◌++◌, flat_map, map, None}
use Rattle.std.specs.List.{AllZip, Contains, enumerate_from}
use Rattle.sqlite.specs.Given.{HasGiven}
use Rattle.sqlite.specs.Held.{Held, state}
use Rattle.sqlite.specs.Order.{Row}
use Rattle.sqlite.specs.State.{FailsToQuery, IsUnchanged, Shown}
use Rattle.sqlite.specs.Store.{Ghosts}
use Rattle.sqlite.specs.declared.error.Error.{Error}
use Rattle.wu_core.specs.Hosts.{hosts_of}
use Rattle.wu_core.specs.World.{Import, World}
use Rattle.wu_core.specs.declared.workunit.Archived.{Archived}
use Rattle.wu_core.specs.declared.workunit.HostClass.{HostClass}
use Rattle.wu_core.specs.declared.workunit.Instance.{Instance}
use Rattle.wu_core.specs.declared.workunit.Workunit.{Workunit}
use Rattle.wu_schema.specs.Asking.{IsSelect}
use Rattle.wu_schema.specs.Faults.{fault_of, IsFailure}
use Rattle.wu_schema.specs.Refines.{Refines, host_of}
use Rattle.wu_schema.specs.Stored.{archived_cells, class_cells, number}
use Rattle.wu_store.specs.StandsFor.{KnowsClasses}
use Rattle.wu_views.specs.Imports.{imports_in_order}
use Rattle.wu_views.specs.Lines.{host_line_of, import_line_of, import_row, line_of, line_row, result_line_of, result_line_row}
use Rattle.wu_schema.specs.declared.rows.HostSum.{HostSum}
use Rattle.wu_views.specs.declared.lines.ImportLine.{ImportLine}
use Rattle.wu_views.specs.declared.lines.ResultLine.{ResultLine}
use Rattle.wu_views.specs.declared.lines.WorkunitLine.{WorkunitLine}

-- The row and the line are those of one of these.
pub record IsRowOfMember {X T : Type 0} (row_of : X → Row) (line_of : X → T) (all : List X) (row : Row) (line : T) : Type 0 where
  pub shown : X
  pub there : Contains all shown
  pub row_is : row ≡ row_of shown
  pub line_is : line ≡ line_of shown

-- What a question without parameters lists, of each world with classes that the tables represent.
pub record Lists {S T : Type 0} (g : Ghosts S) (text : List ℕ) (IsRow : World → Row → T → Type 0) (lines_of : World → List T) : Type 0 where
  pub select : IsSelect text
  -- Its answer has a row for each line, in their order.
  pub answer : (old new : Held S) (rows : List Row) → Shown text [] (state g old) (state g new) rows → (world : World) → KnowsClasses world → Refines (state g old).now world → AllZip (IsRow world) rows (lines_of world)
  -- Rows that are handed on are a prefix of the answer.
  pub front : (old now : Held S) (given : List Row) → IsUnchanged (state g old) (state g now) → HasGiven g text [] now given → (world : World) → KnowsClasses world → Refines (state g old).now world
      → (more : List Row) × AllZip (IsRow world) (given ++ more) (lines_of world)
  -- Without a limit on steps, its only faults are `Memory` and `Broken`.
  pub told : (old new : Held S) (error : Error) → FailsToQuery text [] (state g old) (state g new) error → (world : World) → KnowsClasses world → Refines (state g old).now world
      → old.step_limit ≡ None → IsFailure (fault_of error)

-- ---- workunits

-- The row of a workunit in its view, with the length of its input, and its class.
abbrev pub workunit_shown : Workunit → Row
workunit_shown w = line_row (line_of w)

-- The row and the line are those of a workunit of the world.
abbrev pub IsRowOfWorkunit : World → Row → WorkunitLine → Type 0
IsRowOfWorkunit world = IsRowOfMember workunit_shown line_of world.workunits

-- ---- results

-- The row of an instance in its view, by its number, with the name of its workunit and the length of its output.
abbrev pub result_shown : List ℕ → ℕ × Instance → Row
result_shown workunit p = result_line_row (result_line_of workunit p)

-- The rows of a workunit's instances, in order of their numbers.
abbrev pub results_shown : Workunit → List Row
results_shown w = map (result_shown w.name) (enumerate_from 0 w.instances)

-- The rows of the instances of all workunits, in order of number.
abbrev pub all_results_shown : World → List Row
all_results_shown world = flat_map results_shown world.workunits

-- The row and the line are those of an instance of a workunit of the world.
pub record IsRowOfResult (world : World) (row : Row) (line : ResultLine) : Type 0 where
  pub workunit : Workunit
  pub present : Contains world.workunits workunit
  pub of : IsRowOfMember (result_shown workunit.name) (result_line_of workunit.name) (enumerate_from 0 workunit.instances) row line

-- ---- hosts

-- The row and the line are those of a host of the world.
abbrev pub IsRowOfHost : World → Row → HostSum → Type 0
IsRowOfHost world = IsRowOfMember (host_of world.grants) (host_line_of world.grants) (hosts_of world.grants)

-- ---- the archive

-- The row of an archived workunit in its view, with its place.
abbrev pub placed_archived_row : ℕ × Archived → Row
placed_archived_row p = number p.0 ∷ archived_cells p.1

-- The archived workunits with their places, which are counted from 1.
abbrev pub archive_of : World → List (ℕ × Archived)
archive_of world = enumerate_from 1 world.archived

-- The row is that of this archived workunit of the world.
abbrev pub IsRowOfArchived : World → Row → Archived → Type 0
IsRowOfArchived world = IsRowOfMember placed_archived_row (λ (p : ℕ × Archived). p.1) (archive_of world)

-- ---- classes of hosts

-- The row is that of this host with a class.
abbrev pub IsRowOfClass : World → Row → HostClass → Type 0
IsRowOfClass world = IsRowOfMember class_cells (λ (it : HostClass). it) world.classes

-- ---- imports

-- The row of an import in its view.
abbrev pub import_shown : Import → Row
import_shown import = import_row (import_line_of import)

-- The row and the line are those of an import of the world.
abbrev pub IsRowOfImport : World → Row → ImportLine → Type 0
IsRowOfImport world = IsRowOfMember import_shown import_line_of (imports_in_order world.imports)
