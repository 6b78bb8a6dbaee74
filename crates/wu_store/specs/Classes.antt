-- What each statement on classes makes of a world, and what is asked about them.
use Rattle.std.specs.Prelude.{◌<◌, ◌^◌, ◌≡◌, ◌≢◌, ◌==◌, ℕ, List, [], map, codes, Option, None, option_map, Result, IfErr, IfSome, if◌then◌else◌}
use Rattle.sqlite.specs.Effect.{Database}
use Rattle.sqlite.specs.Held.{Held, state}
use Rattle.sqlite.specs.State.{HasCleanDisk}
use Rattle.sqlite.specs.Store.{Ghosts}
use Rattle.wu_core.specs.Classes.{class_of, with_class}
use Rattle.wu_core.specs.Limits.{class_version}
use Rattle.wu_core.specs.Storable.{IsClass}
use Rattle.wu_core.specs.World.{World}
use Rattle.wu_core.specs.declared.fault.Fault.{Fault}
use Rattle.wu_core.specs.declared.fault.Fault.TheVariants.{NotAProject}
use Rattle.wu_core.specs.declared.marks.Marks.{Marks}
use Rattle.wu_core.specs.declared.workunit.Workunit.{Workunit}
use Rattle.wu_schema.specs.Classes.{HasClassTables, unbound_in}
use Rattle.wu_schema.specs.Made.{PutsOne}
use Rattle.wu_schema.specs.Queue.{HasQueue}
use Rattle.wu_schema.specs.Refines.{Refines}
use Rattle.wu_schema.specs.Stored.{class_row}
use Rattle.wu_schema.specs.Tables.{HasNamed, workunit_class_at}
use Rattle.wu_store.specs.Answers.{numbered}
use Rattle.wu_store.specs.Changes.{with_version}
use Rattle.wu_store.specs.Queues.{at_place}
use Rattle.wu_store.specs.StandsFor.{KnowsClasses, marked as marks_in}

-- The class of a workunit is added, if the table is there.
abbrev pub PutsClass : ℕ → ℕ → Database → Database → Type 0
PutsClass number class old new =
    (tree : ℕ) → HasNamed old.schema (codes "workunit_class") (workunit_class_at tree) → PutsOne old new tree (class_row (number, class))

-- The classes of workunits with this class of the workunit of this number, at its place.
abbrev pub with_class_of : ℕ → ℕ → List (ℕ × ℕ) → List (ℕ × ℕ)
with_class_of number class classed = at_place (λ (p : ℕ × ℕ). p.0) (number, class) classed

-- Tables of classes beside a world of an older version get this class, and the world and a queue stay.
pub record AddsClass (number class : ℕ) (old new : Database) : Type 0 where
  pub tables : (classed : List (ℕ × ℕ)) → HasClassTables old classed → HasClassTables new (with_class_of number class classed)
  pub stands : (world : World) (classed : List (ℕ × ℕ)) → ¬ KnowsClasses world → HasClassTables old classed → Refines old world → Refines new world
  pub queue : (classed : List (ℕ × ℕ)) (marked : List (ℕ × Marks)) → HasClassTables old classed → HasQueue old marked → HasQueue new marked

-- Empty tables of classes beside a world of an older version get class 0 for each of its workunits, whose marks these
-- are. The world and a queue stay.
abbrev pub FillsClasses : List (ℕ × Marks) → Database → Database → Type 0
FillsClasses rows old new =
    (world : World) → ¬ KnowsClasses world → Refines old world → rows ≡ marks_in world → HasClassTables old []
    → Refines new world × HasClassTables new (unbound_in world) × ((marked : List (ℕ × Marks)) → HasQueue old marked → HasQueue new marked)

-- The world is set to version 3, if its tables of classes have class 0 for each workunit and no other row.
abbrev pub SetsVersion : ℕ → Database → Database → Type 0
SetsVersion version old new =
    (world : World) → version ≡ class_version → ¬ KnowsClasses world → Refines old world → HasClassTables old (unbound_in world) → Refines new (with_version version world)

-- A world of an older version, whose marks these are, gets the tables of classes and is then at their version. A queue
-- stays.
abbrev pub UpgradesClasses : List (ℕ × Marks) → Database → Database → Type 0
UpgradesClasses rows old new =
    (world : World) → ¬ KnowsClasses world → Refines old world → rows ≡ marks_in world
    → Refines new (with_version 3 world) × ((marked : List (ℕ × Marks)) → HasQueue old marked → HasQueue new marked)

-- The workunit, with this class if it has this number.
abbrev pub and_class : ℕ → ℕ → Workunit → Workunit
and_class number class w = if w.number == number then record w { class = class } else w

-- The world with this class of the workunit of this number.
abbrev pub with_set_class : ℕ → ℕ → World → World
with_set_class number class world = record world { workunits = map (and_class number class) world.workunits }

-- The world with this class of the host of this name.
abbrev pub with_classed_host : List ℕ → ℕ → World → World
with_classed_host host class world = record world { classes = with_class host class world.classes }

-- Tables that represented a world with classes represent what this makes of it, and a queue stays.
pub record ChangesClasses (change : World → World) (old new : Database) : Type 0 where
  pub stands : (world : World) → KnowsClasses world → Refines old world → Refines new (change world)
  pub queue : (world : World) (marked : List (ℕ × Marks)) → KnowsClasses world → Refines old world → HasQueue old marked → HasQueue new marked

-- The class of the workunit of this number; `None` if it is not present.
abbrev pub class_numbered : ℕ → World → Option ℕ
class_numbered number world = option_map (λ (w : Workunit). w.class) (numbered number world)

-- The class of the host of this name; 0 if no file named it.
abbrev pub class_named : List ℕ → World → ℕ
class_named host world = class_of world.classes host

-- The number may be that of a row, and the class of its workunit, if there is one, can be read.
abbrev pub LoadsClass : ℕ → World → Type 0
LoadsClass number world = (number < 2 ^ 63) × IfSome (class_numbered number world) IsClass

-- The class of the host of this name can be read.
abbrev pub LoadsHostClass : List ℕ → World → Type 0
LoadsHostClass host world = IsClass (class_named host world)

-- On a clean disk, this holds of each world with classes that the tables represent.
abbrev pub ForEachClassed : {S : Type 0} → Ghosts S → Held S → Held S → (World → Type 0) → Type 0
ForEachClassed g old new Is = HasCleanDisk (state g new) → (world : World) → KnowsClasses world → Refines (state g old).now world → Is world

-- Over such a world and without a limit on steps, no read is refused.
abbrev pub NotRefusedClass : {S T : Type 0} → Ghosts S → Held S → Held S → Result T Fault → (World → Type 0) → Type 0
NotRefusedClass g old new result Is =
    HasCleanDisk (state g new) → (world : World) → KnowsClasses world → Refines (state g old).now world → Is world → old.step_limit ≡ None
    → IfErr result (λ fault. fault ≢ NotAProject)
