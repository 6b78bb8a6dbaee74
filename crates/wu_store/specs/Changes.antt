-- What each change makes of a world.
use Rattle.std.specs.Prelude.{◌≡◌, ◌≢◌, ℕ, ◌+◌, ◌==◌, true, false, not, List, [], ◌∷◌, ◌++◌, length, map, filter, find, take, drop, suc, slice_get, slice_set, Option, Some, option_map, Result, IsOk, ◌<◌, ◌≤◌, if◌then◌else◌}
use Rattle.std.specs.List.{enumerate_from, list_any}
use Rattle.sqlite.specs.Order.{Row}
use Rattle.sqlite.specs.Table.{Table}
use Rattle.sqlite_schema.specs.declared.schema.Keys.TheVariants.{Enforced}
use Rattle.sqlite_rules.specs.Lists.{Has}
use Rattle.sqlite_trees.specs.View.{IsShaped}
use Rattle.sqlite_trees.specs.declared.store.Shape.TheVariants as shape
use Rattle.sqlite.specs.Effect.{Database, IsDatabase}
use Rattle.wu_core.specs.declared.workunit.Archived.{Archived}
use Rattle.wu_core.specs.declared.workunit.Grant.{Grant}
use Rattle.wu_core.specs.declared.workunit.Instance.{Instance}
use Rattle.wu_core.specs.declared.workunit.Workunit.{Workunit}
use Rattle.wu_core.specs.Hosts.{hosts_of}
use Rattle.wu_core.specs.World.{World, Import, MayBeKept}
use Rattle.wu_schema.specs.Stored.{stored_grant}
use Rattle.wu_schema.specs.ProjectTables.{HasTables, ProjectTrees}
use Rattle.wu_schema.specs.Refines.{Refines, HoldsAll, ListsAll, host_of}
use Rattle.wu_schema.specs.Others.{SparesOthers}
use Rattle.wu_schema.specs.Queue.{HasQueue}
use Rattle.wu_store.specs.Answers.{numbered}
use Rattle.wu_store.specs.Queues.{at_place}
use Rattle.wu_store.specs.StandsFor.{KnowsClasses, StandsFor, marked as marks_in}
use Rattle.wu_core.specs.declared.marks.Marks.{Marks}
use Rattle.wu_schema.specs.Calm.{IsCalm}
use Rattle.wu_store.specs.Sums.{AreSums}
use Rattle.wu_schema.specs.declared.rows.HostSum.{HostSum}
use Rattle.wu_schema.specs.declared.table.ProjectTable.TheVariants as the_table

-- Nothing is written, and nothing is refused.
abbrev pub DoesNothing : {X T E : Type 0} → X → X → Result T E → Type 0
DoesNothing old new result = (new ≡ old) × IsOk result

-- The world at this version of the schema.
abbrev pub with_version : ℕ → World → World
with_version version world = record world { version = version }

-- The world with one workunit more, after the others.
abbrev pub with_workunit : Workunit → World → World
with_workunit w world = record world { workunits = world.workunits ++ w ∷ [] }

-- The workunits with this one at its place in order of number; it replaces the one of its number.
abbrev pub placed : Workunit → List Workunit → List Workunit
placed w ws = at_place (λ (v : Workunit). v.number) w ws

-- The world with this workunit at its place.
abbrev pub with_placed : Workunit → World → World
with_placed w world = record world { workunits = placed w world.workunits }

-- The workunit without its instances.
abbrev pub without_instances : Workunit → Workunit
without_instances w = record w { instances = [] }

-- No workunit has this number; and one has it.
abbrev pub LacksNumber : ℕ → List Workunit → Type 0
LacksNumber number ws = list_any (λ (w : Workunit). w.number == number) ws ≡ false

abbrev pub HasNumber : ℕ → List Workunit → Type 0
HasNumber number ws = list_any (λ (w : Workunit). w.number == number) ws ≡ true

-- No workunit of a represented world had this number.
abbrev pub WasFree : ℕ → Database → Database → Type 0
WasFree number old new = (world : World) → Refines old world → LacksNumber number world.workunits

-- The world with this workunit in place of the one of its number.
abbrev pub with_replaced : Workunit → World → World
with_replaced w world = record world { workunits = map (λ v. if v.number == w.number then w else v) world.workunits }

-- The workunit with the instances and the class of another.
abbrev pub keeping_instances : Workunit → Workunit → Workunit
keeping_instances was w = record w { instances = was.instances; class = was.class }

-- The second workunit with the row of the first, if they have the same number; its instances and its class stay.
abbrev pub and_row : Workunit → Workunit → Workunit
and_row w v = if v.number == w.number then keeping_instances v w else v

abbrev pub with_row : Workunit → World → World
with_row w world = record world { workunits = map (and_row w) world.workunits }

-- The row is set, if a workunit has its number.
abbrev pub SetsRow : Workunit → Database → Database → Type 0
SetsRow w old new = (world : World) → Refines old world → HasNumber w.number world.workunits → Refines new (with_row w world)

-- If a workunit has this number, a queue beside the world stays as it was.
abbrev pub LeavesMarks : ℕ → Database → Database → Type 0
LeavesMarks number old new =
    (world : World) (marked : List (ℕ × Marks)) → Refines old world → HasNumber number world.workunits → HasQueue old marked → HasQueue new marked

-- The workunit is put at its place.
abbrev pub Places : Workunit → Database → Database → Type 0
Places w old new = (world : World) → KnowsClasses world → StandsFor old world → StandsFor new (with_placed w world)

-- The workunit replaces the present one of its number, which was this.
abbrev pub Replaces : Workunit → Workunit → Database → Database → Type 0
Replaces was w old new =
    (world : World) → KnowsClasses world → StandsFor old world → numbered w.number world ≡ Some was → StandsFor new (with_replaced w world)

-- The workunit replaces the present one of its number, whichever that is.
abbrev pub ReplacesAny : Workunit → Database → Database → Type 0
ReplacesAny w old new =
    (world : World) → KnowsClasses world → StandsFor old world → HasNumber w.number world.workunits → StandsFor new (with_replaced w world)

-- The world without the workunit of this number, and so without its instances.
abbrev pub without_workunit : ℕ → World → World
without_workunit number world = record world { workunits = filter (λ (w : Workunit). not (w.number == number)) world.workunits }

-- The workunit, with one instance more if it has this number.
abbrev pub and_instance : ℕ → Instance → Workunit → Workunit
and_instance number i w = if w.number == number then record w { instances = w.instances ++ i ∷ [] } else w

-- The world with one instance more, after those of the workunit of this number.
abbrev pub with_instance : ℕ → Instance → World → World
with_instance number i world = record world { workunits = map (and_instance number i) world.workunits }

-- The workunit of this number has so many instances.
abbrev pub HasInstances : ℕ → ℕ → List Workunit → Type 0
HasInstances number n ws = option_map (λ (w : Workunit). length w.instances) (find (λ (w : Workunit). w.number == number) ws) ≡ Some n

-- The instance is added, if its number is the next one of its workunit.
abbrev pub AddsInstance : ℕ → ℕ → Instance → Database → Database → Type 0
AddsInstance number n i old new = (world : World) → Refines old world → HasInstances number n world.workunits → Refines new (with_instance number i world)

-- The workunit, with this instance at a place if it has this number.
abbrev pub and_set : ℕ → ℕ → Instance → Workunit → Workunit
and_set number n i w = if w.number == number then record w { instances = slice_set w.instances n i } else w

-- The world with this instance at a place among those of the workunit of this number.
abbrev pub with_set : ℕ → ℕ → Instance → World → World
with_set number n i world = record world { workunits = map (and_set number n i) world.workunits }

-- The instance is set, if its workunit has one of its number.
abbrev pub SetsInstance : ℕ → ℕ → Instance → Database → Database → Type 0
SetsInstance number n i old new =
    (world : World) (w : Workunit) → Refines old world → numbered number world ≡ Some w → n < length w.instances → Refines new (with_set number n i world)

-- If the workunit has an instance of this number, a queue beside the world stays as it was.
abbrev pub InstanceLeavesMarks : ℕ → ℕ → Database → Database → Type 0
InstanceLeavesMarks number n old new =
    (world : World) (w : Workunit) (marked : List (ℕ × Marks)) → Refines old world → numbered number world ≡ Some w → n < length w.instances
    → HasQueue old marked → HasQueue new marked

-- The list with this instance at a place: in place of the one that is there, or after the last.
abbrev pub put_at : ℕ → Instance → List Instance → List Instance
put_at n i is = take n is ++ i ∷ drop (suc n) is

abbrev pub and_put : ℕ → ℕ → Instance → Workunit → Workunit
and_put number n i w = if w.number == number then record w { instances = put_at n i w.instances } else w

-- The world with this instance at a place of the workunit of this number.
abbrev pub with_put : ℕ → ℕ → Instance → World → World
with_put number n i world = record world { workunits = map (and_put number n i) world.workunits }

-- The tables represent this world, and a queue beside it has the same rows.
abbrev pub StandsBeside : World → Database → Database → Type 0
StandsBeside world old new = Refines new world × ((marked : List (ℕ × Marks)) → HasQueue old marked → HasQueue new marked)

-- An instance is put at its place, if this one was there, or none was and the place is the next.
abbrev pub PutsInstance : ℕ → ℕ → Option Instance → Instance → Database → Database → Type 0
PutsInstance number n was i old new =
    (world : World) (w : Workunit) → Refines old world → numbered number world ≡ Some w → n ≤ length w.instances → slice_get w.instances n ≡ was
    → StandsBeside (with_put number n i world) old new

-- All instances of the workunit are put at their places, if it had these.
abbrev pub PutsInstances : Workunit → List Instance → Database → Database → Type 0
PutsInstances w was old new =
    (world : World) (v : Workunit) → numbered w.number world ≡ Some v → length was ≤ length w.instances
    → Refines old (with_replaced (record w { instances = was }) world) → StandsBeside (with_replaced w world) old new

-- The row of the workunit is put at its place, if this one was there.
abbrev pub PutsRow : Workunit → Workunit → Database → Database → Type 0
PutsRow was w old new =
    (world : World) → Refines old world → numbered w.number world ≡ Some was
    → StandsBeside (with_replaced (keeping_instances was w) world) old new

-- The class of the workunit is then set, if the world has classes.
abbrev pub PutsClassOf : Workunit → Workunit → Database → Database → Type 0
PutsClassOf was w old new =
    (world : World) → KnowsClasses world → Refines old (with_replaced (keeping_instances was w) world)
    → StandsBeside (with_replaced (record w { instances = was.instances }) world) old new

-- The marks of the workunit are put into the queue, in place of those of the workunit that had its number at first.
abbrev pub PutsMarks : Workunit → Workunit → Database → Database → Type 0
PutsMarks was w old new =
    (first : Database) (world : World) → Refines first world → numbered w.number world ≡ Some was
    → Refines old (with_replaced w world) → HasQueue old (marks_in world)
    → Refines new (with_replaced w world) × HasQueue new (marks_in (with_replaced w world))

-- The instances of a new workunit are added, if its row is there without them.
abbrev pub AddsInstances : Workunit → Database → Database → Type 0
AddsInstances w old new = (world : World) → LacksNumber w.number world.workunits → Refines old (with_placed (without_instances w) world) → Refines new (with_placed w world)

-- While the instances of a new workunit are added, a queue beside the world stays as it was.
abbrev pub LeavesQueue : Workunit → Database → Database → Type 0
LeavesQueue w old new =
    (world : World) (marked : List (ℕ × Marks)) → LacksNumber w.number world.workunits → Refines old (with_placed (without_instances w) world)
    → HasQueue old marked → HasQueue new marked

-- The world with these grants after its own.
abbrev pub with_grants : List Grant → World → World
with_grants grants world = record world { grants = world.grants ++ grants }

-- The world with one archived row more.
abbrev pub with_archived : Archived → World → World
with_archived a world = record world { archived = world.archived ++ a ∷ [] }

-- The next place of a list: places are counted from 1.
abbrev pub IsNextPlace : {X : Type 0} → ℕ → List X → Type 0
IsNextPlace place xs = place ≡ length xs + 1

-- These rows are put into an empty queue, if they are the marks of the represented world.
abbrev pub FillsQueue : List (ℕ × Marks) → Database → Database → Type 0
FillsQueue rows old new = (world : World) → Refines old world → rows ≡ marks_in world → HasQueue old [] → Refines new world × HasQueue new rows

-- A world of this version, whose marks these are, then has a queue with these rows.
abbrev pub UpgradesQueue : ℕ → List (ℕ × Marks) → Database → Database → Type 0
UpgradesQueue from rows old new =
    (world : World) → from ≡ world.version → StandsFor old world → rows ≡ marks_in world → Refines new world × HasQueue new rows

-- A world of this version, which has no classes and whose marks these are, is then at the present version.
abbrev pub Upgrades : ℕ → List (ℕ × Marks) → Database → Database → Type 0
Upgrades from rows old new =
    (world : World) → from ≡ world.version → ¬ KnowsClasses world → StandsFor old world → rows ≡ marks_in world → StandsFor new (with_version 3 world)

-- The tables of other programs stay, if the tables represented such a world.
abbrev pub SparesUpgraded : ℕ → List (ℕ × Marks) → Database → Database → Type 0
SparesUpgraded from rows old new = (world : World) → from ≡ world.version → StandsFor old world → rows ≡ marks_in world → SparesOthers old new

-- The grants are added, if the place is the next one of the world's grants and the sums are those of the grants.
abbrev pub AddsGrants : ℕ → List Grant → List HostSum → Database → Database → Type 0
AddsGrants place grants sums old new =
    (world : World) → Refines old world → IsNextPlace place world.grants → AreSums sums grants → Refines new (with_grants grants world)

-- The archived row is added, if its place is the next one of the world's archived rows.
abbrev pub AddsArchived : ℕ → Archived → Database → Database → Type 0
AddsArchived place a old new = (world : World) → Refines old world → IsNextPlace place world.archived → Refines new (with_archived a world)

-- The world with one import more.
abbrev pub with_import : Import → World → World
with_import import world = record world { imports = world.imports ++ import ∷ [] }

-- The import is added, if it may be kept.
abbrev pub AddsImport : Import → Database → Database → Type 0
AddsImport import old new = (world : World) → Refines old world → MayBeKept import → Refines new (with_import import world)

-- The world with this number for the next workunit.
abbrev pub with_next : ℕ → World → World
with_next next world = record world { next_number = next }

-- These rows are the rows of these grants, at places from 1 on.
abbrev pub ListsGrants : List Row → List Grant → Type 0
ListsGrants rows grants = ListsAll rows (map stored_grant (enumerate_from 1 grants))

-- These rows are the rows of the hosts of these grants, with their sums.
abbrev pub HoldsHosts : List Row → List Grant → Type 0
HoldsHosts rows grants = HoldsAll rows (map (host_of grants) (hosts_of grants))

-- The rows of these grants are after those that were there, if the place is the next one. Each other table stays as it
-- was.
pub record HasListed (place : ℕ) (more : List Grant) (t : ProjectTrees) (old new : Database) : Type 0 where
  pub schema : new.schema ≡ old.schema
  pub rows : (grants : List Grant) → IsNextPlace place grants → ListsGrants (old.trees (t the_table.Grant)) grants → ListsGrants (new.trees (t the_table.Grant)) (grants ++ more)
  pub others : (u : Table) → Has old.schema.tables u → u.tree ≢ (t the_table.Grant) → new.trees u.tree ≡ old.trees u.tree
  pub sound : IsDatabase new

-- The rows of grants are put at consecutive places, from this one on; the rows of hosts are not changed yet.
abbrev pub PutsGrants : ℕ → List Grant → Database → Database → Type 0
PutsGrants place more old new = (version : ℕ) (t : ProjectTrees) → HasTables version old.schema t → IsDatabase old → HasListed place more t old new

-- The rows of hosts had the sums of some grants, and now have those of these grants too, whose sums these are. Each
-- table that no action reaches stays as it was.
pub record HasCredited (sums : List HostSum) (t : ProjectTrees) (old new : Database) : Type 0 where
  pub schema : new.schema ≡ old.schema
  pub hosts : (grants more : List Grant) → AreSums sums more → HoldsHosts (old.trees (t the_table.Host)) grants → HoldsHosts (new.trees (t the_table.Host)) (grants ++ more)
  pub shaped : IsShaped shape.Table (new.trees (t the_table.Host))
  pub others : (u : Table) → Has old.schema.tables u → u.tree ≢ (t the_table.Host) → IsCalm old.schema Enforced u (t the_table.Host) → new.trees u.tree ≡ old.trees u.tree
  pub sound : IsDatabase new

-- These sums are added to those of their hosts.
abbrev pub Credits : List HostSum → Database → Database → Type 0
Credits sums old new =
    (version : ℕ) (t : ProjectTrees) → HasTables version old.schema t → IsDatabase old → IsShaped shape.Table (old.trees (t the_table.Host)) → HasCredited sums t old new
