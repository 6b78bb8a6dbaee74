-- The version of each world that the tables represent.
use Rattle.std.specs.Prelude.{◌≡◌, ◌≢◌, ◌⊎◌, ℕ, List, [], ◌∷◌, map}
use Rattle.sqlite.specs.Effect.{Database}
use Rattle.sqlite.specs.Order.{Row, column}
use Rattle.sqlite.specs.declared.types.Value.{Value}
use Rattle.wu_core.specs.World.{World}
use Rattle.wu_loader.specs.Shown.{keyed}
use Rattle.wu_schema.specs.Refines.{Refines}
use Rattle.wu_schema.specs.Stored.{number}
use Rattle.wu_schema.specs.ProjectTables.{HasTables, ProjectTrees}
use Rattle.wu_schema.specs.declared.table.ProjectTable.TheVariants as the_table

-- Each world that the database represents has this version.
abbrev pub IsVersionOf : Database → ℕ → Type 0
IsVersionOf db version = (world : World) → Refines db world → world.version ≡ version

-- The value is the number of this version; or it is no number, and the version is 1.
abbrev pub IsToldBy : Value → ℕ → Type 0
IsToldBy value version = (value ≡ number version) ⊎ ((version ≡ 1) × ((told : ℕ) → value ≢ number told))

-- The rows are one row, which has this value after its key.
abbrev pub HasValue : List Row → Value → Type 0
HasValue rows value = (row : Row) × (rows ≡ row ∷ []) × (column row 1 ≡ value)

-- The one row of a project gives this version; rows that are not one give version 1.
abbrev pub TellVersion : List Row → ℕ → Type 0
TellVersion rows version = ((value : Value) × HasValue rows value × IsToldBy value version) ⊎ ((version ≡ 1) × ((value : Value) → ¬ HasValue rows value))

-- Each represented world has this version, and the rows of the table `project` give it.
pub record IsReadVersion (db : Database) (version : ℕ) : Type 0 where
  pub stands : IsVersionOf db version
  pub read : (trees : ProjectTrees) → HasTables 1 db.schema trees → TellVersion (map (keyed 3) (db.trees (trees the_table.Project))) version
