-- Lists of values and their rows, and why rows are not those of values.
use Rattle.std.specs.Prelude.{◌≡◌, ◌≢◌, ℕ, ◌+◌, ◌-◌, ◌≤◌, ◌<◌, All, List, [], ◌∷◌, length, map, ⊤, Some, slice_get, slice_index_or, take}
use Rattle.std.specs.List.{enumerate_from}
use Rattle.std.specs.List.Sorted.{IsPermutation, IsSorted}
use Rattle.std.specs.declared.cmp.Ordering.{Ordering}
use Rattle.std.specs.declared.cmp.Ordering.TheVariants.{Less}
use Rattle.sqlite.specs.Order.{Row}
use Rattle.wu_loader.specs.declared.finding.NoWorld.{NoWorld}
use Rattle.wu_loader.specs.declared.finding.NoWorld.TheVariants.{Memory, Wrong}
use Rattle.wu_schema.specs.declared.table.ProjectTable.{ProjectTable}
use Rattle.wu_loader.specs.declared.finding.WrongRow as told

-- The rows of values, with their places from 1.
abbrev pub rows_of : {T : Type 0} → (ℕ → T → Row) → List T → List Row
rows_of {T} cells values = map (λ (p : ℕ × T). cells p.0 p.1) (enumerate_from 1 values)

-- Each row is that of a value in its ranges, at its place.
pub record AreOfValues {T : Type 0} (cells : ℕ → T → Row) (IsValue : T → Type 0) (rows : List Row) : Type 0 where
  pub values : List T
  pub stored : All IsValue values
  pub same : rows ≡ rows_of cells values

-- The rows are those of these values, in some order; the values are in their ranges and in this order.
pub record AreSorted {T : Type 0} (cells : T → Row) (IsValue : T → Type 0) (order : T → T → Ordering) (rows : List Row) (values : List T) : Type 0 where
  pub same : IsPermutation (map cells values) rows
  pub stored : All IsValue values
  pub sorted : IsSorted order values

-- ---- what is reported

-- The call is out of memory, or this holds of the row that is reported.
abbrev pub UnlessMemory : NoWorld → (told.WrongRow → Type 0) → Type 0
UnlessMemory Memory Holds = ⊤
UnlessMemory (Wrong wrong) Holds = Holds wrong

-- A row of this table is reported, at a place of which this holds.
abbrev pub IsIn : ProjectTable → (ℕ → Type 0) → told.WrongRow → Type 0
IsIn table Holds wrong = (wrong.table ≡ table) × Holds wrong.place

-- ---- places

-- The row at the place, from 1, is the first that is the row of no value.
pub record IsNoRow {T : Type 0} (cells : ℕ → T → Row) (IsValue : T → Type 0) (rows : List Row) (place : ℕ) : Type 0 where
  pub row : Row
  pub counted : 1 ≤ place
  pub there : slice_get rows (place - 1) ≡ Some row
  pub none : (value : T) → IsValue value → row ≢ cells place value
  pub before : AreOfValues cells IsValue (take (place - 1) rows)

-- The first of these rows, at this place, is the row of no value, if there is one.
abbrev pub StartsWithNoRow : {T : Type 0} → (ℕ → T → Row) → (T → Type 0) → ℕ → List Row → Type 0
StartsWithNoRow {T} cells IsValue place [] = ⊤
StartsWithNoRow {T} cells IsValue place (row ∷ rows) = (value : T) → IsValue value → row ≢ cells place value

-- At this place, from 1, what is found differs from what should be there: it is another, too many, or missing. Before
-- this place there is no difference.
pub record DiffersAt {X : Type 0} (wanted found : List X) (place : ℕ) : Type 0 where
  pub counted : 1 ≤ place
  pub before : take (place - 1) found ≡ take (place - 1) wanted
  pub other : slice_get found (place - 1) ≢ slice_get wanted (place - 1)

-- The value at this place, from 0, is the first that is not above the one before it.
pub record IsNotAbove {X : Type 0} (order : X → X → Ordering) (values : List X) (place : ℕ) : Type 0 where
  pub counted : 1 ≤ place
  pub there : place < length values
  pub before : (k : ℕ) (d : X) → k + 1 < place → order (slice_index_or values k d) (slice_index_or values (k + 1) d) ≡ Less
  pub not_above : (d : X) → order (slice_index_or values (place - 1) d) (slice_index_or values place d) ≢ Less
