-- The tables of classes of schema version 3, as they are made beside the tables of an older version.
use Rattle.std.specs.Prelude.{◌≡◌, ℕ, List, [], map, codes}
use Rattle.sqlite.specs.Effect.{Database, IsDatabase}
use Rattle.wu_core.specs.World.{World}
use Rattle.wu_core.specs.declared.marks.Marks.{Marks}
use Rattle.wu_core.specs.declared.workunit.Workunit.{Workunit}
use Rattle.wu_schema.specs.Made.{AddsOurs, KeepsOthers}
use Rattle.wu_schema.specs.Queue.{HasQueue}
use Rattle.wu_schema.specs.Refines.{ListsAll, Refines}
use Rattle.wu_schema.specs.Stored.{class_row}
use Rattle.wu_schema.specs.Tables.{HasNamed, host_class_at, workunit_class_at}

-- Both tables of classes are there, each in a tree of its own. No host has a class, and the workunits of these numbers
-- have these classes.
pub record HasClassTables (db : Database) (classed : List (ℕ × ℕ)) : Type 0 where
  pub host_class : ℕ
  pub workunit_class : ℕ
  pub hosts : HasNamed db.schema (codes "host_class") (host_class_at host_class)
  pub workunits : HasNamed db.schema (codes "workunit_class") (workunit_class_at workunit_class)
  pub none : db.trees host_class ≡ []
  pub rows : ListsAll (db.trees workunit_class) (map class_row classed)

-- The number of each workunit, with class 0.
abbrev pub unbound_in : World → List (ℕ × ℕ)
unbound_in world = map (λ (w : Workunit). (w.number, 0)) world.workunits

-- Both tables of classes are made without a row. The world that the tables represent stays, and so does a queue.
pub record MakesClasses (old new : Database) : Type 0 where
  pub classes : HasClassTables new []
  pub stands : (world : World) → Refines old world → Refines new world
  pub queue : (marked : List (ℕ × Marks)) → HasQueue old marked → HasQueue new marked
  pub keeps : KeepsOthers old new
  pub adds : AddsOurs old new
  pub sound : IsDatabase new
