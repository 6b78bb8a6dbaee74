-- The adoption of a connection: what a session that begins has found or made, and what a refusal reports and leaves.
use Rattle.std.specs.Prelude.{◌≡◌, ◌⊎◌, ◌<◌, ◌≤◌, ℕ, nat_lt, Bool, true, false, if◌then◌else◌, IsTrue, None, Option, Some}
use Rattle.sqlite.specs.Effect.{Database}
use Rattle.sqlite.specs.State.{State, HasCleanDisk}
use Rattle.sqlite.specs.Tree.{Trees}
use Rattle.wu_core.specs.declared.fault.Fault.{Fault}
use Rattle.wu_core.specs.declared.fault.Fault.TheVariants.{Broken, NewSchema, NotAProject}
use Rattle.wu_core.specs.World.{World, empty_world}
use Rattle.wu_schema.specs.Calls.{BreaksBetween, IsBack}
use Rattle.wu_schema.specs.Faults.{IsFailure}
use Rattle.wu_schema.specs.Fresh.{IsTakenFault, MakesProject}
use Rattle.wu_schema.specs.Versions.{HasProject, HasVersion, LacksProject}
use Rattle.wu_machine.specs.Machine.{present_version}
use Rattle.wu_store.specs.Loading.{IsStoreFault}
use Rattle.wu_passes.specs.Committing.{FoundAs}
use Rattle.wu_passes.specs.Standing.{GoesOn, FaultsOnlyGrow, ShowsWorld, TellsLater}

-- There is no project: nothing has the name of its table, or what has the name lacks a column.
abbrev pub IsVacant : State → Type 0
IsVacant s = LacksProject s.now.schema

-- The world that a session begins from: the one that the tables represent, or the empty one if there is no project.
abbrev pub BeginsFrom : State → World → Type 0
BeginsFrom s world = GoesOn s world ⊎ (IsVacant s × (world ≡ empty_world))

-- The one row of the project has a version that this program knows.
abbrev pub IsKnown : (db : Database) → HasProject db.schema → Type 0
IsKnown db has = (version : ℕ) × HasVersion db has version × (version ≤ present_version)

-- A crash leaves nothing that it could not leave before.
abbrev pub LeavesNoMore : State → State → Type 0
LeavesNoMore old new = (db : Trees) → new.may_leave db → old.may_leave db

-- A crash leaves what it could leave before, or a fresh project.
abbrev pub LeavesFresh : State → State → Type 0
LeavesFresh old new = (db : Trees) → new.may_leave db → old.may_leave db ⊎ FoundAs db empty_world

-- All is as it was: what is shown, what is committed, and what a crash may leave.
pub record KeepsAll (old new : State) : Type 0 where
  pub now : new.now ≡ old.now
  pub committed : new.committed ≡ old.committed
  pub left : LeavesNoMore old new

-- ---- with Ok

-- The project that was found is adopted as it is, and its version is known.
pub record FindsProject (old new : State) : Type 0 where
  pub kept : KeepsAll old new
  pub known : (has : HasProject old.now.schema) → IsKnown old.now has

-- A fresh project was made beside what was there, and none of its names was taken. Its tables represent the empty
-- world.
pub record MakesFresh (old new : State) : Type 0 where
  pub beside : MakesProject old.now new.now
  pub goes : GoesOn new empty_world

-- The session goes on over the world that the tables represented, whose version this program knows.
abbrev pub GoesOver : State → State → World → Type 0
GoesOver old new world = 1 ≤ world.version → GoesOn old world → GoesOn new world × (world.version ≤ present_version)

-- A session begins over the connection. What is said of tables holds on a clean disk.
pub record Adopts (old new : State) : Type 0 where
  -- A disk that is not clean stays so.
  pub clean : FaultsOnlyGrow old new
  -- No limit is set on the steps of a statement.
  pub unlimited : new.step_limit ≡ None
  pub was_open : HasCleanDisk new → IsTrue old.is_open
  pub is_open : HasCleanDisk new → IsTrue new.is_open
  pub goes : HasCleanDisk new → (world : World) → GoesOver old new world
  -- If there was a project, it is kept.
  pub found : HasCleanDisk new → ¬ IsVacant old → FindsProject old new
  -- If there was none, a fresh one is made.
  pub fresh : HasCleanDisk new → IsVacant old → MakesFresh old new
  pub left : HasCleanDisk new → LeavesFresh old new

-- The version of a session that begins. What is said of tables holds on a clean disk.
pub record KnowsVersion (old new : State) (version : ℕ) : Type 0 where
  pub known : version ≤ present_version
  -- It is the version of the row of a project that was found.
  pub found : HasCleanDisk new → (has : HasProject old.now.schema) → HasVersion old.now has version
  -- It is the present version if a project was made.
  pub fresh : HasCleanDisk new → IsVacant old → version ≡ present_version
  -- It is the version of the world that the tables represent.
  pub over : HasCleanDisk new → (world : World) → 1 ≤ world.version → ShowsWorld old world → version ≡ world.version

-- The version, if it is older than the present one; else `None`.
abbrev pub older_than_present : ℕ → Option ℕ
older_than_present version = if nat_lt version present_version then Some version else None

-- The older version that a session begins over; `None` at the present one.
pub record StartsOver (old new : State) (older : Option ℕ) : Type 0 where
  pub version : ℕ
  pub knows : KnowsVersion old new version
  pub is : older ≡ older_than_present version

-- Whether the project is new: none was there, and this adoption made it. What is said of tables holds on a clean disk.
pub record TellsNew (old new : State) (is_new : Bool) : Type 0 where
  pub made : HasCleanDisk new → is_new ≡ true → IsVacant old
  pub found : HasCleanDisk new → is_new ≡ false → ¬ IsVacant old

-- ---- with a fault

-- The fault is one of the store, or refuses a later version.
abbrev pub IsAdoptionFault : Fault → Type 0
IsAdoptionFault fault = IsStoreFault fault ⊎ ((version : ℕ) × TellsLater version fault)

-- A later version than this program knows is stored, and the connection was open.
pub record StoresLater (s : State) (version : ℕ) : Type 0 where
  pub is_open : IsTrue s.is_open
  pub there : ¬ IsVacant s
  pub stored : (has : HasProject s.now.schema) → HasVersion s.now has version
  pub later : present_version < version

-- The fault refuses a project of this version as later, or is `Memory` or `Broken`.
abbrev pub IsRefusalOf : ℕ → Fault → Type 0
IsRefusalOf version fault = IsFailure fault ⊎ TellsLater version fault

-- The version is that of the project's one row, and this program knows it.
abbrev pub IsKnownRow : Database → ℕ → Type 0
IsKnownRow db version = ((has : HasProject db.schema) → HasVersion db has version) × (version ≤ present_version)

-- Why no version that this program knows was found, with this limit on steps.
pub record RefusesRow (limit : Option ℕ) (db : Database) (fault : Fault) : Type 0 where
  -- A later version is reported only if it is that of the project's one row.
  pub later : (version : ℕ) → fault ≡ NewSchema version → ((has : HasProject db.schema) → HasVersion db has version) × (present_version < version)
  -- Over the one row of a project, without a limit on steps, the fault refuses its version as later, or is `Memory` or
  -- `Broken`.
  pub only : limit ≡ None → (has : HasProject db.schema) (version : ℕ) → HasVersion db has version → IsRefusalOf version fault

-- Why the adoption was refused.
pub record TellsCause (old new : State) (fault : Fault) : Type 0 where
  -- A later version is reported only if it is stored.
  pub stored : (version : ℕ) → fault ≡ NewSchema version → StoresLater old version
  -- Over a table with the one row of a project, whatever other tables hold, no other fault is reported except `Memory`
  -- and `Broken`.
  pub only : old.in_transaction ≡ false → (has : HasProject old.now.schema) (version : ℕ) → HasVersion old.now has version → IsRefusalOf version fault
  -- `Broken` means that the disk failed, or that the connection was not open.
  pub broken : fault ≡ Broken → BreaksBetween old new
  -- Without a project, as with a taken name, the fault is `NotAProject`, `Memory`, or `Broken` for such a failure.
  pub vacant : IsVacant old → IsTakenFault (BreaksBetween old new) fault

-- What a refusal leaves.
pub record GivesBack (old new : State) (fault : Fault) : Type 0 where
  -- An open connection shows what it showed, or the last commit.
  pub back : IsBack old new
  pub left : LeavesFresh old new
  -- A project that was there, of any version and with any rows, is not touched.
  pub kept : ¬ IsVacant old → LeavesNoMore old new
  -- After `NotAProject` all is as it was.
  pub whole : fault ≡ NotAProject → KeepsAll old new
  pub goes : (world : World) → GoesOn old world → GoesOn new world
  -- After each fault except `Memory` and `Broken` the connection can be adopted again.
  pub serves : old.in_transaction ≡ false → IsFailure fault ⊎ IsTrue new.is_open

-- No session begins. What is said of tables holds on a clean disk.
pub record RefusesAdoption (old new : State) (fault : Fault) : Type 0 where
  pub told : IsAdoptionFault fault
  pub clean : FaultsOnlyGrow old new
  pub cause : HasCleanDisk new → TellsCause old new fault
  pub given : HasCleanDisk new → GivesBack old new fault
