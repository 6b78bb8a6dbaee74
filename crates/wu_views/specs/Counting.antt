-- What the questions of the summary ask of a world, and what a count answers.
use Rattle.std.specs.Prelude.{◌≡◌, ◌≢◌, ◌⊎◌, IfErr, ℕ, List, [], ◌∷◌, IfOk, length, map, Result}
use Rattle.std.specs.List.{flat_map}
use Rattle.sqlite.specs.Held.{Held, state}
use Rattle.sqlite.specs.Order.{Row}
use Rattle.sqlite.specs.State.{HasCleanDisk, Shown}
use Rattle.sqlite.specs.Store.{Ghosts}
use Rattle.sqlite.specs.declared.types.Value.{Value}
use Rattle.sqlite_sql.specs.Aggregate.{count}
use Rattle.wu_core.specs.declared.fault.Fault.{Fault}
use Rattle.wu_core.specs.declared.fault.Fault.TheVariants.{Memory, NotAProject}
use Rattle.wu_core.specs.declared.workunit.Workunit.{Workunit}
use Rattle.wu_core.specs.declared.workunit.Instance.{Instance}
use Rattle.wu_core.specs.declared.states.ServerState.{ServerState}
use Rattle.wu_core.specs.World.{World}
use Rattle.wu_schema.specs.Asking.{TellsQuery}

-- The instances of all workunits.
abbrev pub all_instances : World → List Instance
all_instances world = flat_map (λ (w : Workunit). w.instances) world.workunits

-- The states of the instances of all workunits.
abbrev pub all_states : World → List ServerState
all_states world = map (λ (i : Instance). i.server_state) (all_instances world)

abbrev pub workunit_count : World → ℕ
workunit_count world = length world.workunits

abbrev pub import_count : World → ℕ
import_count world = length world.imports

abbrev pub class_count : World → ℕ
class_count world = length world.classes

-- ---- a count

-- The answer is one row, which counts so many.
abbrev pub IsCount : List Row → ℕ → Type 0
IsCount rows n = rows ≡ (count n ∷ []) ∷ []

-- A cell is read as the number that it counts. A count of 2^63 - 1 or more may be out of memory.
pub record ReadsCount (cell : Value) (result : Result ℕ Fault) : Type 0 where
  pub value : IfOk result (λ found. (n : ℕ) → cell ≡ count n → found ≡ n)
  pub refused : IfErr result (λ fault. (fault ≡ Memory) ⊎ ((fault ≡ NotAProject) × ((n : ℕ) → cell ≢ count n)))

-- On a clean disk, the result is the number that the answer counts.
abbrev pub ShowsCount : {S : Type 0} → Ghosts S → Held S → Held S → Result ℕ Fault → List ℕ → Row → Type 0
ShowsCount g old new result sql params =
    HasCleanDisk (state g new) → IfOk result (λ found. (rows : List Row) × Shown sql params (state g old) (state g new) rows × ((n : ℕ) → IsCount rows n → found ≡ n))

-- On a clean disk, a fault is out of memory, an error of the question, or an answer that is no count.
abbrev pub FailsCount : {S : Type 0} → Ghosts S → Held S → Held S → Result ℕ Fault → List ℕ → Row → Type 0
FailsCount g old new result sql params =
    HasCleanDisk (state g new)
    → IfErr result (λ fault. (fault ≡ Memory) ⊎ (TellsQuery sql params (state g old) (state g new) fault ⊎ ((rows : List Row) × Shown sql params (state g old) (state g new) rows × ((n : ℕ) → ¬ IsCount rows n))))
