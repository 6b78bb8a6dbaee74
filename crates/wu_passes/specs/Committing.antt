-- What a crash leaves of a command's changes.
use Rattle.std.specs.Prelude.{◌≡◌}
use Rattle.sqlite.specs.Effect.{Database}
use Rattle.sqlite.specs.Tree.{Trees}
use Rattle.wu_core.specs.World.{World}
use Rattle.wu_schema.specs.Others.{SparesOthers}
use Rattle.wu_store.specs.StandsFor.{StandsFor}

-- A database with these trees, as a crash left them, represents this world.
pub record FoundAs (db : Trees) (world : World) : Type 0 where
  pub database : Database
  pub same : database.trees ≡ db
  pub stands : StandsFor database world

-- Likewise, and the tables of other programs are in that database as they were in the old one.
pub record FoundSparing (old : Database) (db : Trees) (world : World) : Type 0 where
  pub found : FoundAs db world
  pub spares : SparesOthers old found.database
