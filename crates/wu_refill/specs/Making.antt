-- What a refill makes of tables.
use Rattle.std.specs.Prelude.{◌⊎◌}
use Rattle.sqlite.specs.Effect.{Database}
use Rattle.wu_core.specs.World.{World, empty_world}
use Rattle.wu_schema.specs.Fresh.{MakesProject}
use Rattle.wu_schema.specs.Others.{SparesOthers}
use Rattle.wu_store.specs.StandsFor.{StandsFor}

-- Tables that represented an empty world represent this one.
pub record MakesOfEmpty (world : World) (old new : Database) : Type 0 where
  pub stands : StandsFor old empty_world → StandsFor new world
  -- The tables of other programs are there as they were, with their rows.
  pub spares : StandsFor old empty_world → SparesOthers old new

-- A fresh project is made, and then filled with this world.
pub record MakesFilled (world : World) (old new : Database) : Type 0 where
  pub fresh : Database
  pub made : MakesProject old fresh
  pub filled : MakesOfEmpty world fresh new
  pub stands : StandsFor new world

-- The tables represent the empty world, or this one.
abbrev pub IsFreshOrFilled : World → Database → Database → Type 0
IsFreshOrFilled world old new = StandsFor new empty_world ⊎ StandsFor new world
