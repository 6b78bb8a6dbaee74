-- The workunits that a pass is to change, as they are found.
use Rattle.std.specs.Prelude.{◌<◌, ◌≡◌, ℕ, ◌-◌, ◌^◌, slice_get, All, List, map, [], ◌∷◌, Some, Option, Result, MatchResult, Vec}
use Rattle.std.specs.Option.{option_map_or}
use Rattle.wu_core.specs.declared.fault.Fault.{Fault}
use Rattle.wu_core.specs.declared.fault.Fault.TheVariants.{Memory}
use Rattle.wu_core.specs.declared.workunit.Workunit.{Workunit}
use Rattle.wu_core.specs.World.{World}
use Rattle.wu_rules.specs.declared.due.Pass.{Pass}
use Rattle.wu_rules.specs.Due.{chosen}
use Rattle.wu_store.specs.Loading.{Finds, IsStoreFault}
use Rattle.wu_core.specs.Storable.{AreStorable, IsStorable}
use Rattle.wu_schema.specs.Stored.{number}
use Rattle.wu_store.specs.Answers.{numbered}
use Rattle.wu_store.specs.StandsFor.{KnowsClasses, marked}
use Rattle.sqlite.specs.Order.{Row}
use Rattle.wu_core.specs.declared.marks.Marks.{Marks}

-- The workunits that the pass takes are found, or the fault is one of the store.
abbrev pub FindsDue : {A : Type 0} → Pass → ℕ → ℕ → ℕ → Result (Vec Workunit A) Fault → World → Type 0
FindsDue pass now min_age limit result world = MatchResult result (λ due. due.items ≡ chosen pass now min_age limit world) IsStoreFault

-- The numbers of the workunits that the pass takes are found, or the fault is one of the store.
abbrev pub FindsDueNumbers : {A : Type 0} → Pass → ℕ → ℕ → ℕ → Result (Vec ℕ A) Fault → World → Type 0
FindsDueNumbers pass now min_age limit result world =
    MatchResult result (λ due. due.items ≡ map (λ (w : Workunit). w.number) (chosen pass now min_age limit world)) IsStoreFault

-- If each row is a number, these numbers are found, or the call is out of memory.
abbrev pub FindsNumbers : {A : Type 0} → List Row → Result (Vec ℕ A) Fault → Type 0
FindsNumbers rows result = (numbers : List ℕ) → rows ≡ map (λ n. number n ∷ []) numbers
    → MatchResult result (λ found. found.items ≡ numbers) (λ fault. fault ≡ Memory)

-- Without classes, the marks of all workunits are found, each with its number.
abbrev pub FindsMarks : {A : Type 0} → Result (Vec (ℕ × Marks) A) Fault → World → Type 0
FindsMarks result world = ¬ KnowsClasses world → MatchResult result (λ rows. rows.items ≡ marked world) IsStoreFault

-- The world has no classes, and each workunit can be read.
abbrev pub AreEarly : World → Type 0
AreEarly world = (¬ KnowsClasses world) × AreStorable world

-- The limit can be asked for, and each workunit can be read.
abbrev pub LoadsDue : ℕ → World → Type 0
LoadsDue limit world = (limit < 2 ^ 63) × AreStorable world

-- Without classes, the workunit of the least number is found; `None` if there is no workunit.
abbrev pub FindsFirst : Result (Option Workunit) Fault → World → Type 0
FindsFirst result world = ¬ KnowsClasses world → Finds (slice_get world.workunits 0) result

-- The row is the number of this workunit, which is present.
pub record IsNumberOf (row : Row) (w : Workunit) (world : World) : Type 0 where
  pub present : numbered w.number world ≡ Some w
  pub row_is : row ≡ number w.number ∷ []

-- With classes, the workunit of the row's number is found.
abbrev pub FindsPresent : Row → Result Workunit Fault → World → Type 0
FindsPresent row result world = KnowsClasses world → (w : Workunit) → IsNumberOf row w world → MatchResult result (λ loaded. loaded ≡ w) IsStoreFault

-- The world has classes, and the row is the number of a workunit that can be read.
abbrev pub IsRowOfStorable : Row → World → Type 0
IsRowOfStorable row world = KnowsClasses world × (w : Workunit) × IsNumberOf row w world × IsStorable w

-- The rows are the numbers of these workunits, in their order, and each is present.
pub record AreNumbersOf (rows : List Row) (ws : List Workunit) (world : World) : Type 0 where
  pub present : All (λ (w : Workunit). numbered w.number world ≡ Some w) ws
  pub rows_are : rows ≡ map (λ (w : Workunit). number w.number ∷ []) ws

-- With classes, the workunits of the rows' numbers are found.
abbrev pub FindsAllPresent : {A : Type 0} → List Row → Result (Vec Workunit A) Fault → World → Type 0
FindsAllPresent rows result world = KnowsClasses world → (ws : List Workunit) → AreNumbersOf rows ws world → MatchResult result (λ found. found.items ≡ ws) IsStoreFault

-- The world has classes, and the rows are the numbers of workunits that can be read.
abbrev pub AreRowsOfStorable : List Row → World → Type 0
AreRowsOfStorable rows world = KnowsClasses world × (ws : List Workunit) × AreNumbersOf rows ws world × All IsStorable ws

-- How many numbers of 64 bits there are from the number of this workunit on; 0 without a workunit.
abbrev pub numbers_left : Option Workunit → ℕ
numbers_left next = option_map_or (λ (w : Workunit). 2 ^ 64 - w.number) next 0
