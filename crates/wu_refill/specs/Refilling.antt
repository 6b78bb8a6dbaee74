-- The changes that make a world of an empty one.
use Rattle.std.specs.Prelude.{◌≡◌, [], ◌∷◌, ◌++◌, List, map, All}
use Rattle.wu_core.specs.Classes.{AreInOrder}
use Rattle.wu_core.specs.declared.workunit.Grant.{Grant}
use Rattle.wu_core.specs.World.{World, Import, IsInOrder, MayBeKept, empty_world}
use Rattle.wu_machine.specs.Machine.{IsUpToDate}
use Rattle.wu_machine.specs.Sound.{HasVerdicts}
use Rattle.wu_plans.specs.PassPlans.{HasGrants}
use Rattle.wu_plans.specs.Planning.{sets_class}
use Rattle.wu_store.specs.Changing.{AreRight, KeepsGrants, archived_from, import_of_change, made_all}
use Rattle.wu_store.specs.declared.changes.Change.{Change}
use Rattle.wu_store.specs.declared.changes.Change.TheVariants.{Add, Next, Keep}
use Rattle.wu_store.specs.declared.changes.Import.{Import as Kept}

-- These changes make this world of an empty one. The next number and the class of each host are set. Then each workunit
-- is added, all grants are kept, each archived row is added, and each import is kept.
pub record Refills (world : World) (changes : List Change) : Type 0 where
  pub grants : List Change
  pub kept : List Kept
  -- The grants are kept from the first place on, with their sums.
  pub keeps_grants : KeepsGrants [] world.grants grants
  -- These are the imports of the world, in their order.
  pub keeps_imports : map import_of_change kept ≡ world.imports
  pub all : changes
      ≡ Next world.next_number ∷ map sets_class world.classes ++ map Add world.workunits ++ grants ++ archived_from 1 world.archived ++ map Keep kept

-- The world is one that changes make of an empty one. It is of the present version, its workunits are in order of number,
-- and its hosts with a class in order of name. Its imports may be kept, with verdicts in their range.
pub record MayBeRefilled (world : World) : Type 0 where
  pub version : IsUpToDate world
  pub workunits : IsInOrder world
  pub classes : AreInOrder world.classes
  pub imports : All MayBeKept world.imports
  pub verdicts : HasVerdicts world

-- Of an empty world the changes make the world, and they may be made of it.
abbrev pub MakesTheWorld : World → List Change → Type 0
MakesTheWorld world changes = (made_all changes empty_world ≡ world) × AreRight changes empty_world

-- ---- one part of the changes after another

-- The changes end with those that keep these grants from the first place on.
abbrev pub AddsFirstGrants : List Grant → List Change → List Change → Type 0
AddsFirstGrants grants old new = HasGrants empty_world grants old new

-- The changes end with those that keep these imports.
pub record AddsKept (imports : List Import) (old new : List Change) : Type 0 where
  pub kept : List Kept
  pub are : map import_of_change kept ≡ imports
  pub changes : new ≡ old ++ map Keep kept
