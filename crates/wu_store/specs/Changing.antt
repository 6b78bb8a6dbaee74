-- What the changes of a command make of a world, and of the tables that represent it.
use Rattle.std.specs.Prelude.{◌≡◌, ℕ, List, [], ◌∷◌, map, Some, Vec, ⊤}
use Rattle.std.specs.List.{enumerate_from}
use Rattle.std.specs.declared.alloc.Global.{Global}
use Rattle.sqlite.specs.Effect.{Database}
use Rattle.wu_core.specs.declared.workunit.Archived.{Archived}
use Rattle.wu_core.specs.declared.workunit.Grant.{Grant}
use Rattle.wu_core.specs.World.{World, Import, MayBeKept}
use Rattle.wu_schema.specs.Others.{SparesOthers}
use Rattle.wu_store.specs.Changes.{with_workunit, with_replaced, without_workunit, with_grants, with_archived, with_import, with_next, with_version, IsNextPlace}
use Rattle.wu_core.specs.Storable.{IsAbove}
use Rattle.wu_store.specs.Answers.{numbered}
use Rattle.wu_store.specs.Classes.{with_classed_host}
use Rattle.wu_store.specs.StandsFor.{KnowsClasses, StandsFor, marked}
use Rattle.wu_store.specs.declared.changes.Change.{Change}
use Rattle.wu_store.specs.declared.changes.Change.TheVariants.{Add, Replace, Remove, Grants, Archive, Next, Keep, Class, Upgrade}
use Rattle.wu_store.specs.Sums.{AreSums}
use Rattle.wu_schema.specs.declared.rows.HostSum.{HostSum}
use Rattle.wu_store.specs.declared.changes.Import.{Import as Kept}

-- The import as it is kept.
abbrev pub import_of_change : Kept → Import
import_of_change kept = record {
  kind = kept.kind;
  name = kept.name.now;
  template = kept.template.now;
  content = kept.content.now;
  first_number = kept.first_number;
  verdicts = kept.verdicts;
}

-- The world after one change.
abbrev pub made : Change → World → World
made (Add w) world = with_workunit w world
made (Replace was w) world = with_replaced w world
made (Remove number) world = without_workunit number world
made (Grants _ grants _) world = with_grants grants.items world
made (Archive _ a) world = with_archived a world
made (Next number) world = with_next number world
made (Keep kept) world = with_import (import_of_change kept) world
made (Class host class) world = with_classed_host host class world
made (Upgrade from rows) world = with_version 3 world

-- The world after these changes, one after another.
abbrev pub made_all : List Change → World → World
made_all [] world = world
made_all (change ∷ more) world = made_all more (made change world)

-- The change may be made of this world. An added workunit has a number above all, and a replaced one is present as
-- said; these and a set class need a world with classes. Grants and archived rows have the next place, and grants their
-- sums. An import may be kept. An upgrade is of a world of its version without classes, with the marks of all
-- workunits.
abbrev pub IsRight : Change → World → Type 0
IsRight (Add w) world = KnowsClasses world × IsAbove w.number world.workunits
IsRight (Replace was w) world = KnowsClasses world × (numbered w.number world ≡ Some was)
IsRight (Remove number) world = ⊤
IsRight (Grants place grants sums) world = IsNextPlace place world.grants × AreSums sums.items grants.items
IsRight (Archive place a) world = IsNextPlace place world.archived
IsRight (Next number) world = ⊤
IsRight (Keep kept) world = MayBeKept (import_of_change kept)
IsRight (Class host class) world = KnowsClasses world
IsRight (Upgrade from rows) world = (from ≡ world.version) × (¬ KnowsClasses world) × (rows.items ≡ marked world)

abbrev pub AreRight : List Change → World → Type 0
AreRight [] world = ⊤
AreRight (change ∷ more) world = IsRight change world × AreRight more (made change world)

-- The one change that keeps these grants at consecutive places from this one on, with their sums.
pub record KeepsFrom (place : ℕ) (grants : List Grant) (changes : List Change) : Type 0 where
  pub kept : Vec Grant Global
  pub sums : Vec HostSum Global
  pub are : kept.items ≡ grants
  pub summed : AreSums sums.items grants
  pub one : changes ≡ Grants place kept sums ∷ []

-- Without grants there is no change; otherwise this is the one that keeps them at the places after these.
abbrev pub KeepsGrants : List Grant → List Grant → List Change → Type 0
KeepsGrants before [] changes = changes ≡ []
KeepsGrants before (g ∷ grants) changes = (place : ℕ) × IsNextPlace place before × KeepsFrom place (g ∷ grants) changes

-- The changes that keep these archived rows at consecutive places.
abbrev pub archived_from : ℕ → List Archived → List Change
archived_from place rows = map (λ (p : ℕ × Archived). Archive p.0 p.1) (enumerate_from place rows)

-- Whatever world the tables represented, if the changes may be made of it.
pub record MakesWorlds (changes : List Change) (old new : Database) : Type 0 where
  -- The tables represent what the changes make of the world.
  pub stands : (world : World) → StandsFor old world → AreRight changes world → StandsFor new (made_all changes world)
  -- The tables of other programs are there as they were, with their rows.
  pub spares : (world : World) → StandsFor old world → AreRight changes world → SparesOthers old new
