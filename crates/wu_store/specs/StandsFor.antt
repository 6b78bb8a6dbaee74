-- When a project's tables represent a world: the tables are what it holds, and from version 2 on the queue is too.
use Rattle.std.specs.Prelude.{◌≤◌, ℕ, List, map}
use Rattle.sqlite.specs.Effect.{Database}
use Rattle.wu_core.specs.Limits.{queue_version}
use Rattle.wu_core.specs.World.{World}
use Rattle.wu_core.specs.declared.marks.Marks.{Marks}
use Rattle.wu_core.specs.declared.workunit.Workunit.{Workunit}
use Rattle.wu_rules.specs.Marks.{marks}
use Rattle.wu_schema.specs.Queue.{HasQueue}
use Rattle.wu_schema.specs.Refines.{Refines}
use Rattle.wu_schema.specs.Tables.{IsClassedVersion}

-- The number of each workunit, with its marks.
abbrev pub marked : World → List (ℕ × Marks)
marked world = map (λ (w : Workunit). (w.number, marks w)) world.workunits

-- The world is of a version that has a queue.
abbrev pub IsQueued : World → Type 0
IsQueued world = queue_version ≤ world.version

-- The world is of a version that has classes, and so a queue.
abbrev pub KnowsClasses : World → Type 0
KnowsClasses world = IsClassedVersion world.version

-- The tables are what the world holds. The queue, if its version has one, has the marks of each workunit and no other
-- rows.
pub record StandsFor (db : Database) (world : World) : Type 0 where
  pub refines : Refines db world
  pub queue : IsQueued world → HasQueue db (marked world)
