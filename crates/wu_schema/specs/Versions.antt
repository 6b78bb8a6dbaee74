-- The version of a project: the question for it, and the answer.
use Rattle.std.specs.Prelude.{◌≡◌, ◌⊎◌, ◌≤◌, ℕ, List, [], ◌∷◌, map, codes, slice_get, Vec, Option, None, Some, Result, Ok, Err}
use Rattle.std.specs.List.Sorted.{IsPermutation}
use Rattle.sqlite.specs.Order.{Row, column}
use Rattle.sqlite.specs.Schema.{Schema}
use Rattle.sqlite.specs.Listing.{IsSourceOf, reads_listing, understood}
use Rattle.sqlite.specs.declared.error.Error.{Error}
use Rattle.sqlite.specs.declared.error.Error.TheVariants.{SqlInputError}
use Rattle.sqlite.specs.declared.types.Value.{Value}
use Rattle.sqlite_resolve.specs.declared.error.CompileError.{CompileError}
use Rattle.sqlite_resolve.specs.declared.error.CompileError.TheVariants.{NoSuchTable, NoSuchColumn}
use Rattle.sqlite.specs.Effect.{Database, Reads}
use Rattle.sqlite_resolve.specs.declared.compiled.Compiled.{Compiled}
use Rattle.sqlite.specs.Table.{Table}
use Rattle.sqlite_schema.specs.declared.schema.Column.{Column}
use Rattle.sqlite_schema.specs.Names.{column_named, place_of}
use Rattle.wu_core.specs.declared.fault.Fault.{Fault}
use Rattle.wu_core.specs.Reads.{IsOrWantsMemory}
use Rattle.wu_core.specs.World.{World}
use Rattle.wu_schema.specs.Faults.{fault_of, IsFailure}
use Rattle.wu_schema.specs.Refines.{Refines}
use Rattle.wu_schema.specs.Stored.{number}
use Rattle.wu_schema.specs.Tables.{HasTable}
use Rattle.wu_schema.specs.declared.texts.TheConstants.{SELECT_VERSION}

-- The question for the version.
abbrev pub version_text : List ℕ
version_text = SELECT_VERSION.now

-- The one row of a project, as it is shown: its key, its version and its next number.
abbrev pub project_row : Value → ℕ → Row
project_row next version = number 1 ∷ number version ∷ next ∷ []

-- The answer is the one row of a project of this version, whatever its next number.
abbrev pub AreOfVersion : List Row → ℕ → Type 0
AreOfVersion rows version = (next : Value) × (rows ≡ project_row next version ∷ [])

-- The version is found in these rows, which are the one row of a project.
abbrev pub IsVersionIn : List Row → Option ℕ → Type 0
IsVersionIn rows found = (version : ℕ) × (found ≡ Some version) × (1 ≤ version) × AreOfVersion rows version

-- If these rows are the one row of a project of this version, the version is read, or the call is out of memory.
abbrev pub ReadsVersion : List Row → ℕ → Result (Option ℕ) Fault → Type 0
ReadsVersion rows version result = 1 ≤ version → AreOfVersion rows version → IsOrWantsMemory result (Ok (Some version))

-- The error is that a table or a column is missing.
abbrev pub IsMissing : CompileError → Type 0
IsMissing fault = (fault ≡ NoSuchTable) ⊎ (fault ≡ NoSuchColumn)

-- The error reports a missing table or column.
abbrev pub TellsMissing : Error → Type 0
TellsMissing error = (fault : CompileError) × (error ≡ SqlInputError fault) × IsMissing fault

-- The fault is that of another error.
abbrev pub IsOtherFault : Error → Fault → Type 0
IsOtherFault error fault = (fault ≡ fault_of error) × (¬ TellsMissing error)

-- The schema lacks a project: the question is refused for a missing table or column.
abbrev pub LacksProject : Schema → Type 0
LacksProject schema = (fault : CompileError) × (understood schema version_text ≡ Err fault) × IsMissing fault

-- The name finds a column of the table.
abbrev pub HasColumn : Table → List ℕ → Type 0
HasColumn table name = (at : ℕ) × (column : Column) × (column_named table name ≡ Some at) × (slice_get table.columns at ≡ Some column)

-- A table of the name `project` has the three columns, whatever else it has.
pub record HasProject (schema : Schema) : Type 0 where
  pub at : ℕ
  pub table : Table
  pub found : HasTable schema (codes "project") at table
  pub one : HasColumn table (codes "one")
  pub version : HasColumn table (codes "version")
  pub next_number : HasColumn table (codes "next_number")

-- What the question shows of a row of such a table: the three columns, wherever they are.
abbrev pub project_cells : Table → (one version next_number : ℕ) → Row → Row
project_cells table one version next_number row =
    column row (place_of table one) ∷ column row (place_of table version) ∷ column row (place_of table next_number) ∷ []

-- What the question shows of all rows of such a table.
abbrev pub rows_of_project : (db : Database) → HasProject db.schema → List Row
rows_of_project db has = map (project_cells has.table has.one.0 has.version.0 has.next_number.0) (db.trees has.table.tree)

-- The table's one row is that of a project of this version.
abbrev pub HasVersion : (db : Database) → HasProject db.schema → ℕ → Type 0
HasVersion db has version = (1 ≤ version) × AreOfVersion (rows_of_project db has) version

-- The rows are those of the project, in some order.
abbrev pub ShowsProjectRows : {A : Type 0} → Database → Vec Row A → Type 0
ShowsProjectRows db rows = (has : HasProject db.schema) → IsPermutation (rows_of_project db has) rows.items

-- The question is answered with these rows, by a table `project` or by something else of its name.
abbrev pub IsVersionAnswer : Database → List Row → Type 0
IsVersionAnswer db rows =
    (c : Compiled) × (understood db.schema version_text ≡ Ok c)
    × (source : Database) × IsSourceOf (reads_listing db.schema version_text) db source
    × (given : Row) × Reads c.command source given rows

-- The question is answered with the one row of a project of this version.
abbrev pub ShowsVersion : Database → ℕ → Type 0
ShowsVersion db version = (rows : List Row) × IsVersionAnswer db rows × AreOfVersion rows version

-- Over a project and without a limit on steps, only `Memory` or `Broken` refuses the question.
abbrev pub FailsToAsk : Option ℕ → Database → Error → Type 0
FailsToAsk limit db e = HasProject db.schema → limit ≡ None → IsFailure (fault_of e)

-- Without a project, the question is refused for that, or with `Memory` or `Broken`.
abbrev pub TellsAbsence : Database → Error → Type 0
TellsAbsence db e = LacksProject db.schema → TellsMissing e ⊎ IsFailure (fault_of e)

-- An error that reports a missing table or column is right: the schema lacks a project.
abbrev pub IsMissingOnly : Database → Error → Type 0
IsMissingOnly db e = TellsMissing e → LacksProject db.schema

-- What an answer to the question means: when it is a version, and when it is `None`.
pub record AnswersVersion (db : Database) (found : Option ℕ) : Type 0 where
  -- Over a project it is the version of its one row.
  pub of_row : (has : HasProject db.schema)
      → (version : ℕ) × (found ≡ Some version) × HasVersion db has version
  -- Over tables that represent a world it is the world's version.
  pub of_world : (world : World) → Refines db world → found ≡ Some world.version
  -- Without a project it is `None`.
  pub absent : LacksProject db.schema → found ≡ None
  -- A version is that of the one row that the question is answered with.
  pub told : (version : ℕ) → found ≡ Some version → ShowsVersion db version
  -- It is `None` only without a project.
  pub none : found ≡ None → LacksProject db.schema

-- What a fault of the question means, with this limit on steps.
pub record RefusesVersion (limit : Option ℕ) (db : Database) (fault : Fault) : Type 0 where
  -- Over the one row of a project, without a limit on steps, the fault is `Memory` or `Broken`.
  pub of_row : (has : HasProject db.schema) (version : ℕ)
      → HasVersion db has version → limit ≡ None → IsFailure fault
  -- Likewise over tables that represent a world of a version from 1 on.
  pub of_world : (world : World)
      → Refines db world → 1 ≤ world.version → limit ≡ None → IsFailure fault
  -- Without a project, whatever the limit, the fault is `Memory` or `Broken`.
  pub absent : LacksProject db.schema → IsFailure fault
