-- What is loaded of a project: a workunit with its instances, by its number, its name, or as the first above a number;
-- an import; the next number; and the next place of a grant or of an archived row.
use Rattle.std.specs.Prelude.{◌≡◌, ℕ, ◌<◌, ◌≤◌, ◌^◌, List, [], Option, Some, None, option_map, Result, find, IfOk, IfSome, IsTrue, MatchResult, ⊤}
use Rattle.std.specs.Option.{option_map_or}
use Rattle.sqlite.specs.Held.{Held, state}
use Rattle.sqlite.specs.Order.{Row}
use Rattle.sqlite.specs.State.{State, HasCleanDisk, Survives}
use Rattle.sqlite.specs.Store.{Ghosts}
use Rattle.wu_core.specs.declared.fault.Fault.{Fault}
use Rattle.wu_core.specs.declared.import.ImportKind.{ImportKind}
use Rattle.wu_core.specs.declared.workunit.Instance.{Instance}
use Rattle.wu_core.specs.declared.workunit.Workunit.{Workunit}
use Rattle.wu_core.specs.Formed.{IsWorkunit}
use Rattle.wu_core.specs.World.{World, Import, is_import}
use Rattle.wu_schema.specs.Calls.{IsBack}
pub use Rattle.wu_schema.specs.Asking.{Asks, ServesUnlessFailed}
pub use Rattle.wu_schema.specs.Faults.{IsStoreFault}
use Rattle.wu_schema.specs.Stored.{workunit_row}
use Rattle.wu_store.specs.Answers.{first_above, named, numbered}
use Rattle.wu_store.specs.Changes.{IsNextPlace}
use Rattle.wu_store.specs.StandsFor.{KnowsClasses}
use Rattle.wu_core.specs.Storable.{AreStoredInstances, AreVerdicts, IsStorable}
use Rattle.wu_schema.specs.declared.rows.StoredImport.{StoredImport}

-- ---- what a call that reads reports of the tables, and of each world that they represent

-- The call only reads: it commits nothing, and an open connection shows what it showed, or the last commit.
pub record IsReadOnly (old new : State) : Type 0 where
  pub survives : Survives old new (λ _. ⊥)
  pub back : HasCleanDisk new → IsBack old new

-- A connection that was open stays open after an answer, and after each fault except `Memory` and `Broken`.
abbrev pub StaysUnlessFailed : {S T : Type 0} → Ghosts S → Held S → Held S → Result T Fault → Type 0
StaysUnlessFailed g old new result = IsTrue (state g old).is_open → ServesUnlessFailed g new result

-- ---- a workunit with its instances

-- The workunit, if there is one, can be read.
abbrev pub IsLoadable : Option Workunit → Type 0
IsLoadable found = IfSome found IsStorable

-- The world has classes, the number may be that of a row, and its workunit, if there is one, can be read.
abbrev pub LoadsNumbered : ℕ → World → Type 0
LoadsNumbered number world = KnowsClasses world × (number < 2 ^ 63) × IsLoadable (numbered number world)

-- The world has no classes, the number may be that of a row, and its workunit, if there is one, can be read.
abbrev pub LoadsEarly : ℕ → World → Type 0
LoadsEarly number world = (¬ KnowsClasses world) × (number < 2 ^ 63) × IsLoadable (numbered number world)

-- The world has classes, and the workunit of this name, if there is one, can be read.
abbrev pub LoadsNamed : List ℕ → World → Type 0
LoadsNamed name world = KnowsClasses world × IsLoadable (named name world)

-- The world has no classes, the number may be that of a row, and the first workunit above it, if there is one, can be
-- read.
abbrev pub LoadsAbove : ℕ → World → Type 0
LoadsAbove number world = (¬ KnowsClasses world) × (number < 2 ^ 63) × IsLoadable (first_above number world)

-- This workunit is found, or `None` without one; or the fault is one of the store.
abbrev pub Finds : Option Workunit → Result (Option Workunit) Fault → Type 0
Finds found result = MatchResult result (λ loaded. loaded ≡ found) IsStoreFault

-- With classes, the present workunit of this number is found with its class and its instances; `None` without one.
abbrev pub FindsNumbered : ℕ → Result (Option Workunit) Fault → World → Type 0
FindsNumbered number result world = KnowsClasses world → Finds (numbered number world) result

-- Without classes, the present workunit of this number is found with its instances; `None` without one.
abbrev pub FindsEarly : ℕ → Result (Option Workunit) Fault → World → Type 0
FindsEarly number result world = ¬ KnowsClasses world → Finds (numbered number world) result

-- With classes, the present workunit of this name is found; `None` without one.
abbrev pub FindsNamed : List ℕ → Result (Option Workunit) Fault → World → Type 0
FindsNamed name result world = KnowsClasses world → Finds (named name world) result

-- Without classes, the workunit of the least number above this one is found; `None` without one.
abbrev pub FindsAbove : ℕ → Result (Option Workunit) Fault → World → Type 0
FindsAbove number result world = ¬ KnowsClasses world → Finds (first_above number world) result

-- A workunit that is loaded is well formed.
abbrev pub LoadsFormed : Result (Option Workunit) Fault → Type 0
LoadsFormed result = IfOk result (λ found. IfSome found IsWorkunit)

-- The instances of the workunit of this number; no instance without it.
abbrev pub instances_at : ℕ → World → List Instance
instances_at number world = option_map_or (λ (w : Workunit). w.instances) (numbered number world) []

-- The instances of the workunit of this number are found, or the fault is one of the store.
abbrev pub FindsInstances : ℕ → Result (List Instance) Fault → World → Type 0
FindsInstances number result world = MatchResult result (λ instances. instances ≡ instances_at number world) IsStoreFault

-- The number may be that of a row, and the instances of its workunit can be read.
abbrev pub LoadsInstances : ℕ → World → Type 0
LoadsInstances number world = (number < 2 ^ 63) × AreStoredInstances (instances_at number world)

-- The row is that of this workunit, which is present.
pub record IsRowOfPresent (row : Row) (w : Workunit) (world : World) : Type 0 where
  pub present : numbered w.number world ≡ Some w
  pub row_is : row ≡ workunit_row w

-- The row is that of this workunit, which is present; or there is neither a row nor a workunit.
abbrev pub IsRowIfThere : Option Row → Option Workunit → World → Type 0
IsRowIfThere None None world = ⊤
IsRowIfThere (Some row) (Some w) world = IsRowOfPresent row w world
IsRowIfThere None (Some w) world = ⊥
IsRowIfThere (Some row) None world = ⊥

-- The workunit without its class.
abbrev pub classless : Workunit → Workunit
classless w = record w { class = 0 }

-- The workunit of the row is found with its instances and without its class; `None` without a row.
abbrev pub FindsClassless : Option Row → Result (Option Workunit) Fault → World → Type 0
FindsClassless row result world = (found : Option Workunit) → IsRowIfThere row found world → Finds (option_map classless found) result

-- With classes, the workunit of the row is found with its class; `None` without a row.
abbrev pub FindsIfThere : Option Row → Result (Option Workunit) Fault → World → Type 0
FindsIfThere row result world = KnowsClasses world → (found : Option Workunit) → IsRowIfThere row found world → Finds found result

-- The row, if there is one, is that of a present workunit that can be read.
abbrev pub IsLoadableIfThere : Option Row → World → Type 0
IsLoadableIfThere row world = (found : Option Workunit) × IsRowIfThere row found world × IsLoadable found

-- The world has classes, and the row, if there is one, is that of a present workunit that can be read.
pub record IsWholeIfThere (row : Option Row) (world : World) : Type 0 where
  pub known : KnowsClasses world
  pub loadable : IsLoadableIfThere row world

-- ---- an import, the next number, and the next places

-- The stored import is that of this kind and name; `None` if there was none.
abbrev pub IsEarlier : Option Import → Option StoredImport → Type 0
IsEarlier import None = import ≡ None
IsEarlier import (Some stored) = (kept : Import) × (import ≡ Some kept) × (stored.template ≡ kept.template) × (stored.content ≡ kept.content) × (stored.first_number ≡ kept.first_number) × (stored.verdicts ≡ kept.verdicts)

-- The earlier import of this kind and name is found, or the fault is one of the store.
abbrev pub FindsEarlier : ImportKind → List ℕ → Result (Option StoredImport) Fault → World → Type 0
FindsEarlier kind name result world = MatchResult result (IsEarlier (find (is_import kind name) world.imports)) IsStoreFault

-- The import of this kind and name, if there was one, has verdicts of its kind.
abbrev pub LoadsImport : ImportKind → List ℕ → World → Type 0
LoadsImport kind name world = IfSome (find (is_import kind name) world.imports) (λ import. AreVerdicts kind import.verdicts)

-- The next number is found, or the fault is one of the store.
abbrev pub KnowsNext : Result ℕ Fault → World → Type 0
KnowsNext result world = MatchResult result (λ next. next ≡ world.next_number) IsStoreFault

-- The place may be the next one of a list: places are counted from 1, and a key is at most 2^63 - 1.
abbrev pub IsPlaceToGive : ℕ → Type 0
IsPlaceToGive place = (1 ≤ place) × (place ≤ 2 ^ 63)

-- The next place of the world's grants is found, or the fault is one of the store.
abbrev pub KnowsGrantPlace : Result ℕ Fault → World → Type 0
KnowsGrantPlace result world = MatchResult result (λ place. IsNextPlace place world.grants) IsStoreFault

-- The next place of the world's archived rows is found, or the fault is one of the store.
abbrev pub KnowsArchivedPlace : Result ℕ Fault → World → Type 0
KnowsArchivedPlace result world = MatchResult result (λ place. IsNextPlace place world.archived) IsStoreFault
