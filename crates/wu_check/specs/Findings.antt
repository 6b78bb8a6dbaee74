-- What is found to keep a database from holding a sound project, or from being upgraded.
use Rattle.std.specs.Prelude.{◌≡◌, ◌⊎◌, ℕ, ◌+◌, ◌<◌, ⊤, List, codes, map, Option, Some, None, slice_get}
use Rattle.sqlite.specs.Effect.{Database}
use Rattle.sqlite.specs.Schema.{Schema}
use Rattle.sqlite_schema.specs.Names.{table_named}
use Rattle.wu_core.specs.World.{World, Import}
use Rattle.wu_core.specs.declared.workunit.HostClass.{HostClass}
use Rattle.wu_core.specs.declared.workunit.Workunit.{Workunit}
use Rattle.wu_audit.specs.Words.{place_of_wrong, table_of}
use Rattle.wu_audit.specs.Wrong as audit
use Rattle.wu_audit.specs.declared.wrong.AuditTable.{AuditTable}
use Rattle.wu_audit.specs.declared.wrong.AuditTable.TheVariants as table
use Rattle.wu_audit.specs.declared.wrong.Wrong.{Wrong}
use Rattle.wu_machine.specs.Machine.{present_version}
use Rattle.wu_machine.specs.Sound.{IsSound}
use Rattle.wu_loader.specs.Finding.{IsShownWrong}
use Rattle.wu_loader.specs.Totals.{IsFirstOfOtherSums}
use Rattle.wu_loader.specs.Whole.{DiffersAt}
use Rattle.wu_loader.specs.Worlds.{IsReadable}
use Rattle.wu_schema.specs.declared.table.ProjectTable.TheVariants as the_table
use Rattle.wu_loader.specs.declared.finding.WrongRow as row
use Rattle.wu_loader.specs.declared.totals.OtherSums.{OtherSums}
use Rattle.wu_schema.specs.Fresh.{project_names}
use Rattle.wu_schema.specs.Made.{AreFree}
use Rattle.wu_schema.specs.Queue.{HasQueue}
use Rattle.wu_schema.specs.Refines.{Refines}
use Rattle.wu_schema.specs.Stored.{stored_marks}
use Rattle.wu_schema.specs.Tables.{IsClassedVersion}
use Rattle.wu_schema.specs.ProjectTables.{HasTables, ProjectTrees}
use Rattle.wu_schema.specs.Versions.{AreOfVersion, HasProject, HasVersion, rows_of_project, ShowsVersion}
use Rattle.wu_store.specs.StandsFor.{IsQueued, marked}
use Rattle.wu_tables.specs.Found as tables
use Rattle.wu_tables.specs.Upgrades.{HasFreeNames, IsFirstTaken, TakesUpgradeName}
use Rattle.wu_schema.specs.declared.table.ProjectTable.TheVariants.{Project}
use Rattle.wu_tables.specs.declared.project.Misfit.{Misfit}
use Rattle.wu_tables.specs.declared.project.Misfit.TheVariants.{Missing}
use Rattle.wu_check.specs.Checking.{IsCounted, IsKnownVersion, IsSoundProject}
use Rattle.wu_check.specs.Versions.{IsReadVersion}
use Rattle.wu_check.specs.declared.finding.Counts.{Counts}
use Rattle.wu_check.specs.declared.finding.Finding.{Finding}
use Rattle.wu_check.specs.declared.finding.Finding.TheVariants as finding
use Rattle.wu_check.specs.declared.finding.Key.{Key}
use Rattle.wu_check.specs.declared.finding.Key.TheVariants as key
use Rattle.wu_check.specs.declared.finding.Verdict.{Verdict}
use Rattle.wu_check.specs.declared.checking.Basis.{Basis}
use Rattle.wu_check.specs.declared.checking.Basis.TheVariants as basis
use Rattle.wu_check.specs.declared.finding.Verdict.TheVariants as verdict

-- ---- the row that is wrong

-- This stands at a place, counted from 0, if a place is given.
abbrev pub IsAt : {X : Type 0} → List X → Option ℕ → X → Type 0
IsAt xs place x = (n : ℕ) × (place ≡ Some n) × (slice_get xs n ≡ Some x)

-- This is the key of the row at the place of the table; grants and archived rows are counted from 1.
abbrev pub IsKeyAt : World → AuditTable → Option ℕ → Key → Type 0
IsKeyAt world table.Project place k = k ≡ key.Project
IsKeyAt world table.Workunit place k = (w : Workunit) × IsAt world.workunits place w × (k ≡ key.Workunit w.number)
IsKeyAt world table.Grant place k = (n : ℕ) × (place ≡ Some n) × (k ≡ key.Grant (n + 1))
IsKeyAt world table.Archived place k = (n : ℕ) × (place ≡ Some n) × (k ≡ key.Archived (n + 1))
IsKeyAt world table.Import place k = (i : Import) × IsAt world.imports place i × (k ≡ key.Import i.kind i.name)
IsKeyAt world table.HostClass place k = (it : HostClass) × IsAt world.classes place it × (k ≡ key.HostClass it.host)

-- This is the key of the row that is reported.
abbrev pub IsKeyOf : World → Wrong → Key → Type 0
IsKeyOf world wrong = IsKeyAt world (table_of wrong) (place_of_wrong wrong)

-- ---- what is wrong

-- This is the version of the project, and the tables of version 1, which each version has, are there.
pub record HasFirstTables (db : Database) (version : ℕ) : Type 0 where
  pub read : IsReadVersion db version
  pub trees : ProjectTrees
  pub there : HasTables 1 db.schema trees

-- The tables of version 1 are not all there, or else those of the project's version; this is the first that is wrong.
-- The version of each represented world has all of these tables.
pub record LacksTables (db : Database) (misfit : Misfit) : Type 0 where
  pub version : ℕ
  pub which : (version ≡ 1) ⊎ HasFirstTables db version
  pub told : tables.IsFirstMisfit version db.schema misfit
  pub none : (trees : ProjectTrees) → HasTables version db.schema trees → ⊥
  pub needed : (world : World) → Refines db world → IsClassedVersion version → IsClassedVersion world.version

-- If this says that there is no table `project`, nothing has a name that a new project gives.
abbrev pub LeavesRoom : Schema → Misfit → Type 0
LeavesRoom schema misfit = misfit ≡ Missing Project → AreFree schema project_names

-- The first table that is wrong is this one. If it is the table `project`, and it is missing, a new project has room.
pub record HasWrongTables (db : Database) (misfit : Misfit) : Type 0 where
  pub lacks : LacksTables db misfit
  pub room : LeavesRoom db.schema misfit

-- There is no table `project`. Something, be it a table, an index or a view, has this name, the first one taken of those
-- that a new project gives.
pub record BarsProject (db : Database) (name : List ℕ) : Type 0 where
  pub lacks : LacksTables db (Missing Project)
  pub missing : table_named db.schema (codes "project") ≡ None
  pub taken : IsFirstTaken db.schema project_names name

-- The tables of the project's version are there. Among the rows that questions show of them, this is the first that is
-- wrong, and the tables represent no world.
pub record HasWrongRow (db : Database) (wrong : row.WrongRow) : Type 0 where
  pub version : ℕ
  pub read : IsReadVersion db version
  pub trees : ProjectTrees
  pub there : HasTables version db.schema trees
  pub shown : IsShownWrong version db trees wrong
  pub none : (world : World) → IsReadable world → Refines db world → ⊥

-- The first wrong row is that of this host, the first in order of name that does not have the sums of its grants. These are
-- the sums of its row and those of its grants.
pub record HasHostOfOtherSums (db : Database) (sums : OtherSums) : Type 0 where
  pub place : ℕ
  pub row : HasWrongRow db (record { table = the_table.Host; place = place })
  pub host : IsFirstOfOtherSums row.shown.rows.plain.grants row.shown.rows.plain.hosts place sums

-- The one row of the project has this version, which this program does not know.
pub record HasOtherVersion (db : Database) (version : ℕ) : Type 0 where
  -- If the database has a table `project`, that has one row, of this version.
  pub row : (has : HasProject db.schema) → AreOfVersion (rows_of_project db has) version
  -- A table `project` is there, or something else of its name shows one such row.
  pub there : HasProject db.schema ⊎ ShowsVersion db version
  pub other : ¬ IsKnownVersion version

-- The tables represent a world of a known version, which is first wrong in this way, at the row with this key.
pub record HasUnsoundWorld (db : Database) (wrong : Wrong) (row : Key) : Type 0 where
  pub world : World
  pub refines : Refines db world
  pub known : IsKnownVersion world.version
  pub against : audit.StandsAgainst world wrong
  pub key : IsKeyOf world wrong row

-- The tables represent a sound world of a known version with a queue, and have no queue.
pub record LacksQueue (db : Database) : Type 0 where
  pub world : World
  pub refines : Refines db world
  pub sound : IsSound world
  pub known : IsKnownVersion world.version
  pub queued : IsQueued world
  pub none : (tree : ℕ) → tables.HasQueueIn db.schema tree → ⊥

-- The tables represent a sound world of a known version. The queue is there, and first differs at this place from the
-- marks of the world.
pub record HasOtherMarks (db : Database) (place : ℕ) : Type 0 where
  pub world : World
  pub refines : Refines db world
  pub sound : IsSound world
  pub known : IsKnownVersion world.version
  pub queued : IsQueued world
  pub tree : ℕ
  pub queue : tables.HasQueueIn db.schema tree
  pub differs : DiffersAt (map stored_marks (marked world)) (db.trees tree) place

-- The tables represent a sound world of this version, which is known. Something has this name, the first one taken of
-- those that its upgrade gives.
pub record HasTakenName (db : Database) (version : ℕ) (name : List ℕ) : Type 0 where
  pub project : IsSoundProject db
  pub is : version ≡ project.world.version
  pub taken : TakesUpgradeName db.schema version name

-- The finding is true of the database, and the first in the written order: the tables, their rows, whether the rows
-- agree, the queue, its rows, and the names that an upgrade gives. `PutsLaterFirst` says when an unknown version comes
-- before them.
abbrev pub Tells : Database → Finding → Type 0
Tells db (finding.Tables misfit) = HasWrongTables db misfit
Tells db (finding.Barred name) = BarsProject db name.now
Tells db (finding.Row wrong) = HasWrongRow db wrong
Tells db (finding.Sums sums) = HasHostOfOtherSums db sums
Tells db (finding.Version version) = HasOtherVersion db version
Tells db (finding.World wrong row) = HasUnsoundWorld db wrong row
Tells db finding.Queue = LacksQueue db
Tells db (finding.Marks place) = HasOtherMarks db place
Tells db (finding.Taken version name) = HasTakenName db version name.now

-- If the one row of the project has a later version than the program knows, exactly that is reported. Such a project
-- may have other tables and rows.
abbrev pub PutsLaterFirst : Database → Finding → Type 0
PutsLaterFirst db found = (has : HasProject db.schema) (version : ℕ) → HasVersion db has version → present_version < version → found ≡ finding.Version version

-- Without a limit on steps, a later version is reported before all else.
abbrev pub TellsLaterFirst : Option ℕ → Database → Finding → Type 0
TellsLaterFirst limit db found = limit ≡ None → PutsLaterFirst db found

-- ---- what a verdict says

-- The database holds a sound project with these numbers. Nothing has a name that its upgrade gives.
pub record IsSoundAs (db : Database) (counts : Counts) : Type 0 where
  pub project : IsSoundProject db
  pub counted : IsCounted project.world counts
  pub free : HasFreeNames db.schema counts.version

-- If the verdict is sound, the database holds a sound project with the reported numbers.
abbrev pub SaysSound : Database → Verdict → Type 0
SaysSound db (verdict.Sound counts) = IsSoundAs db counts
SaysSound db (verdict.Unsound found) = ⊤

-- What is found of a sound project with this world: a name of its upgrade that something has, and nothing else.
abbrev pub TellsOfSound : Schema → World → Finding → Type 0
TellsOfSound schema world (finding.Taken version name) = (version ≡ world.version) × TakesUpgradeName schema version name.now
TellsOfSound schema world _ = ⊥

-- If the verdict is unsound, the database holds no sound project, or one whose upgrade gives the name that is found.
abbrev pub SaysUnsound : Database → Verdict → Type 0
SaysUnsound db (verdict.Sound counts) = ⊤
SaysUnsound db (verdict.Unsound found) = (project : IsSoundProject db) → TellsOfSound db.schema project.world found

-- If the verdict is unsound, its finding is true of the database.
abbrev pub SaysWhy : Database → Verdict → Type 0
SaysWhy db (verdict.Sound counts) = ⊤
SaysWhy db (verdict.Unsound found) = Tells db found

-- Without a limit on steps, the finding on a project of a later version is that version.
abbrev pub SaysLater : Option ℕ → Database → Verdict → Type 0
SaysLater limit db (verdict.Sound counts) = ⊤
SaysLater limit db (verdict.Unsound found) = TellsLaterFirst limit db found

-- A sound verdict holds of the database with its numbers, and an unsound one with its finding.
abbrev pub Says : Database → Verdict → Type 0
Says db (verdict.Sound counts) = IsSoundAs db counts
Says db (verdict.Unsound found) = Tells db found

-- ---- while a database is checked

-- What is found of tables of which this is wrong: just that; or, if there is no table `project`, the first name of a new
-- project that something has.
abbrev pub FindsOfTables : Schema → Misfit → Finding → Type 0
FindsOfTables schema misfit (finding.Tables other) = (other ≡ misfit) × LeavesRoom schema misfit
FindsOfTables schema misfit (finding.Barred name) = (misfit ≡ Missing Project) × IsFirstTaken schema project_names name.now
FindsOfTables schema misfit _ = ⊥

-- The tables represent this world, or this finding is true.
abbrev pub IsBasis : Database → Basis → Type 0
IsBasis db (basis.World world) = Refines db world
IsBasis db (basis.Unsound found) = Tells db found

-- If this is the version of the project, and the tables of version 1 are there, the tables represent this world, or
-- this finding is true.
abbrev pub IsBasisOf : ℕ → Database → Basis → Type 0
IsBasisOf version db found = HasFirstTables db version → IsBasis db found

-- Without a limit on steps, the finding on a project of a later version is that version.
abbrev pub IsBasisLater : Option ℕ → Database → Basis → Type 0
IsBasisLater limit db (basis.World world) = ⊤
IsBasisLater limit db (basis.Unsound found) = TellsLaterFirst limit db found

-- For a world of a version that the program does not know, that version is the finding.
abbrev pub TellsUnknown : World → Option Finding → Type 0
TellsUnknown world found = ¬ IsKnownVersion world.version → found ≡ Some (finding.Version world.version)

-- The world is sound, its version is known, and its queue is there if its version has one.
pub record IsRightWorld (schema : Schema) (world : World) : Type 0 where
  pub sound : IsSound world
  pub known : IsKnownVersion world.version
  pub queue : IsQueued world → (tree : ℕ) × tables.HasQueueIn schema tree

-- The world is sound, its version is known, and its queue has the marks of its workunits.
pub record IsJudged (db : Database) (world : World) : Type 0 where
  pub sound : IsSound world
  pub known : IsKnownVersion world.version
  pub queue : IsQueued world → HasQueue db (marked world)

-- The finding is true of each database with this schema whose tables represent the world.
abbrev pub TellsOf : Schema → World → Finding → Type 0
TellsOf schema world found = (db : Database) → db.schema ≡ schema → Refines db world → Tells db found

-- With a finding, that is true of the database; without one, the world is sound and has its queue.
abbrev pub Judges : Database → World → Option Finding → Type 0
Judges db world None = IsJudged db world
Judges db world (Some found) = Tells db found
