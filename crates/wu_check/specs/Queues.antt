-- What a look into the queue does to a connection, and what it reports of the queue's rows.
use Rattle.std.specs.Prelude.{◌≡◌, ℕ, List, ◌∷◌, map, Option, None, Some, Result, IfErr, IfOk, codes}
use Rattle.sqlite.specs.Effect.{Database, IsDatabase}
use Rattle.sqlite.specs.Held.{Held, state}
use Rattle.sqlite.specs.Order.{Row}
use Rattle.sqlite.specs.State.{HasCleanDisk}
use Rattle.sqlite.specs.Store.{Ghosts}
use Rattle.sqlite_trees.specs.View.{IsShaped}
use Rattle.sqlite_trees.specs.declared.store.Shape.TheVariants as shape
use Rattle.wu_core.specs.World.{World}
use Rattle.wu_core.specs.declared.fault.Fault.{Fault}
use Rattle.wu_core.specs.declared.workunit.Workunit.{Workunit}
use Rattle.wu_loader.specs.Shown.{AreWhole}
use Rattle.wu_loader.specs.Whole.{DiffersAt}
use Rattle.wu_rules.specs.Marks.{marks}
use Rattle.wu_schema.specs.Asking.{Asks, ServesUnlessFailed}
use Rattle.wu_schema.specs.Faults.{IsFailure, IsStoreFault}
use Rattle.wu_schema.specs.Stored.{marks_cells, number, stored_marks}
use Rattle.wu_schema.specs.Tables.{HasNamed, queue_at}
use Rattle.wu_store.specs.StandsFor.{marked}

-- The row of the queue for a workunit, as a question shows it: the number, and the marks.
abbrev pub marked_row : Workunit → Row
marked_row w = number w.number ∷ marks_cells (marks w)

-- `None` if the rows are these; else the first place, from 1, at which they differ.
abbrev pub ComparesTo : List Row → List Row → Option ℕ → Type 0
ComparesTo wanted rows None = rows ≡ wanted
ComparesTo wanted rows (Some place) = DiffersAt wanted rows place

-- The rows of the queue are the marks of each workunit, or differ at this place.
abbrev pub HasMarks : World → List Row → Option ℕ → Type 0
HasMarks world = ComparesTo (map stored_marks (marked world))

-- The rows are in order of their rowids, and each has a cell for each column; the last cell may be empty.
pub record IsKeptQueue (rows : List Row) : Type 0 where
  pub ordered : IsShaped shape.Table rows
  pub whole : AreWhole 6 rows

-- The database is sound, and its queue is in this tree.
pub record IsQueueIn (db : Database) (tree : ℕ) : Type 0 where
  pub sound : IsDatabase db
  pub table : HasNamed db.schema (codes "queue") (queue_at tree)
  pub kept : IsKeptQueue (db.trees tree)

-- On a clean disk, this holds of an answer and of the rows of the queue.
pub record LooksInQueue {S T : Type 0} (g : Ghosts S) (old new : Held S) (result : Result T Fault) (Is : List Row → T → Type 0) : Type 0 where
  pub asks : Asks g old new result
  pub opens : ServesUnlessFailed g new result
  pub says : HasCleanDisk (state g new) → (tree : ℕ) → IsQueueIn (state g old).now tree → IfOk result (Is ((state g old).now.trees tree))
  pub fault : IfErr result IsStoreFault
  -- On a clean disk and without a limit on steps, the only faults are `Memory` and `Broken`.
  pub answered : HasCleanDisk (state g new) → (tree : ℕ) → HasNamed (state g old).now.schema (codes "queue") (queue_at tree) → old.step_limit ≡ None → IfErr result IsFailure
