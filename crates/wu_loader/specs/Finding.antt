-- What is found in the tables of a project.
use Rattle.std.specs.Prelude.{◌≡◌, ℕ, Result, IfOk, ⊤}
use Rattle.sqlite.specs.Effect.{Database}
use Rattle.sqlite.specs.Held.{Held, state}
use Rattle.sqlite.specs.State.{HasCleanDisk}
use Rattle.sqlite.specs.Store.{Ghosts}
use Rattle.wu_core.specs.World.{World}
use Rattle.wu_core.specs.declared.fault.Fault.{Fault}
use Rattle.wu_schema.specs.Refines.{Refines}
use Rattle.wu_schema.specs.ProjectTables.{ProjectTrees}
use Rattle.wu_loader.specs.Asked.{LooksAtTables}
use Rattle.wu_loader.specs.First.{IsFirstWrong}
use Rattle.wu_loader.specs.Shown.{AreWhole, ShowsTables}
use Rattle.wu_loader.specs.Worlds.{IsReadable}
use Rattle.wu_loader.specs.declared.finding.Found.{Found}
use Rattle.wu_loader.specs.declared.finding.Found.TheVariants as found
use Rattle.wu_loader.specs.declared.finding.WrongRow.{WrongRow}
use Rattle.wu_loader.specs.declared.tables.TableRows.{TableRows}
use Rattle.wu_schema.specs.declared.table.ProjectTable.TheVariants as the_table

-- If a wrong row is reported, this holds.
abbrev pub IfWrong : Found → Type 0 → Type 0
IfWrong (found.World world) Holds = ⊤
IfWrong (found.Wrong wrong) Holds = Holds

-- The reported row is the first that is wrong, among those that questions show of the tables of this version.
pub record IsShownWrong (version : ℕ) (db : Database) (trees : ProjectTrees) (wrong : WrongRow) : Type 0 where
  pub rows : TableRows
  pub shown : ShowsTables version db.trees trees rows
  pub is : IsFirstWrong version rows wrong

-- What is found in the tables of this version: the world that they represent, if the rows of workunits are whole; or the
-- first wrong row.
abbrev pub ShowsFound : ℕ → Database → ProjectTrees → Found → Type 0
ShowsFound version db trees (found.World world) = AreWhole 15 (db.trees (trees the_table.Workunit)) → Refines db world
ShowsFound version db trees (found.Wrong wrong) = IsShownWrong version db trees wrong

-- What a call does that loads the world of the tables of this version, and what it finds.
pub record LoadsTables {S : Type 0} (version : ℕ) (g : Ghosts S) (old new : Held S) (result : Result Found Fault) : Type 0 where
  -- It only reads, and finds so much of tables of this version whose rows are in order.
  pub looks : LooksAtTables version g old new result (ShowsFound version)
  -- If a wrong row is reported, the tables represent no world of this version with values that rows may have.
  pub none :
      HasCleanDisk (state g new)
      → IfOk result (λ found. IfWrong found ((world : World) → IsReadable world → world.version ≡ version → ¬ Refines (state g old).now world))
