-- When a database holds a sound project.
use Rattle.std.specs.Prelude.{◌≡◌, ◌≤◌, ℕ, codes, length, sum_by}
use Rattle.sqlite.specs.Effect.{Database}
use Rattle.sqlite.specs.Table.{Table}
use Rattle.sqlite_rules.specs.Lists.{Has}
use Rattle.sqlite_trees.specs.View.{IsShaped}
use Rattle.sqlite_trees.specs.declared.store.Shape.TheVariants as shape
use Rattle.wu_core.specs.World.{World}
use Rattle.wu_core.specs.declared.workunit.Workunit.{Workunit}
use Rattle.wu_check.specs.declared.finding.Counts.{Counts}
use Rattle.wu_loader.specs.Shown.{AreWhole}
use Rattle.wu_machine.specs.Machine.{present_version}
use Rattle.wu_machine.specs.Sound.{IsSound}
use Rattle.wu_schema.specs.Tables.{HasNamed, queue_at, workunit_at}
use Rattle.wu_store.specs.StandsFor.{StandsFor}

-- The program knows this version.
pub record IsKnownVersion (version : ℕ) : Type 0 where
  pub first : 1 ≤ version
  pub present : version ≤ present_version

-- The tables represent a sound world of a known version.
pub record IsSoundProject (db : Database) : Type 0 where
  pub world : World
  pub stands : StandsFor db world
  pub sound : IsSound world
  pub known : IsKnownVersion world.version

-- What no question can show of a database: that no row of a workunit or of the queue ends before its last column. A row
-- that was inserted into the table as it is does not. A shorter row is shown with an empty cell there.
pub record HasWholeRows (db : Database) : Type 0 where
  pub workunits : (tree : ℕ) → HasNamed db.schema (codes "workunit") (workunit_at tree) → AreWhole 15 (db.trees tree)
  pub queue : (tree : ℕ) → HasNamed db.schema (codes "queue") (queue_at tree) → AreWhole 6 (db.trees tree)

-- The rows of each table are in order of their rowids, as every store keeps them.
abbrev pub HasRowsInOrder : Database → Type 0
HasRowsInOrder db = (table : Table) → Has db.schema.tables table → IsShaped shape.Table (db.trees table.tree)

pub record IsWellKept (db : Database) : Type 0 where
  pub ordered : HasRowsInOrder db
  pub whole : HasWholeRows db

-- The world has this version, and so many workunits and instances.
abbrev pub IsCounted : World → Counts → Type 0
IsCounted world counts =
    (counts.version ≡ world.version) × (counts.workunits ≡ length world.workunits)
    × (counts.results ≡ sum_by (λ (w : Workunit). length w.instances) world.workunits)
