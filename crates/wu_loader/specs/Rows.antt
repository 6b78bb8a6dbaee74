-- The rows of the tables as questions show them, and the values that they may represent.
use Rattle.std.specs.Prelude.{ℕ, ◌<◌, ◌≤◌, ◌^◌, [], ◌∷◌}
use Rattle.sqlite.specs.Order.{Row}
use Rattle.wu_core.specs.Storable.{AreVerdicts, IsClass, IsName, IsNextNumber, IsStoredInstance}
use Rattle.wu_core.specs.World.{Import, MayBeKept}
use Rattle.wu_core.specs.declared.workunit.Archived.{Archived}
use Rattle.wu_core.specs.declared.workunit.Grant.{Grant}
use Rattle.wu_core.specs.declared.workunit.Workunit.{Workunit}
use Rattle.wu_schema.specs.Stored.{archived_cells, grant_cells, instance_cells, number}
use Rattle.wu_loader.specs.declared.rows.Classed.{Classed}
use Rattle.wu_loader.specs.declared.rows.Placed.{Placed}
use Rattle.wu_loader.specs.declared.rows.ProjectRow.{ProjectRow}

-- ---- rows

abbrev pub project_row_of : ProjectRow → Row
project_row_of p = number 1 ∷ number p.version ∷ number p.next_number ∷ []

abbrev pub placed_row : Placed → Row
placed_row p = instance_cells p.workunit p.n p.instance

-- The row of a workunit's class: its number, and the class.
abbrev pub classed_row : Classed → Row
classed_row c = number c.workunit ∷ number c.class ∷ []

abbrev pub classed_of : Workunit → Classed
classed_of w = record { workunit = w.number; class = w.class }

-- The row of a grant, by its place in the list, from 1.
abbrev pub grant_row : ℕ → Grant → Row
grant_row place g = number place ∷ grant_cells g

abbrev pub archived_row_at : ℕ → Archived → Row
archived_row_at place a = number place ∷ archived_cells a

-- ---- values

pub record IsStoredProject (p : ProjectRow) : Type 0 where
  pub version : 1 ≤ p.version
  pub next_number : IsNextNumber p.next_number

abbrev pub IsStoredPlaced : Placed → Type 0
IsStoredPlaced p = IsStoredInstance p.instance

-- The grant has values that a row may have; the number of its instance fits into 32 bits.
pub record IsStoredGrant (g : Grant) : Type 0 where
  pub host : IsName g.host
  pub n : g.n < 2 ^ 32

pub record IsStoredImport (i : Import) : Type 0 where
  pub name : IsName i.name
  pub verdicts : AreVerdicts i.kind i.verdicts
  pub kept : MayBeKept i

abbrev pub IsStoredClass : Classed → Type 0
IsStoredClass c = IsClass c.class
