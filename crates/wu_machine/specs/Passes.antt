-- A pass over the workunits of a world.
use Rattle.std.specs.Prelude.{ℕ, ◌==◌, Bool, if◌then◌else◌, List, [], ◌∷◌, ◌++◌, flat_map, length, option_to_list}
use Rattle.std.specs.List.{list_any}
use Rattle.wu_core.specs.declared.workunit.Workunit.{Workunit}
use Rattle.wu_core.specs.declared.workunit.Grant.{Grant}
use Rattle.wu_core.specs.declared.workunit.Archived.{Archived}
use Rattle.wu_core.specs.World.{World}
use Rattle.wu_rules.specs.Transition.{transitioned}
use Rattle.wu_rules.specs.Validation as validation
use Rattle.wu_rules.specs.Assimilation.{assimilated, archived, emptied}
use Rattle.wu_rules.specs.declared.due.Pass.{Pass}
use Rattle.wu_rules.specs.declared.due.Pass.TheVariants.{Transition, Validate, Assimilate, Delete, Purge}
use Rattle.wu_rules.specs.Due.{chosen}

-- What a pass makes of a workunit; a purge removes it.
abbrev pub images : Pass → ℕ → Workunit → List Workunit
images Transition now w = transitioned w now ∷ []
images Validate now w = validation.validated w ∷ []
images Assimilate now w = assimilated w now ∷ []
images Delete now w = emptied w ∷ []
images Purge now w = []

-- What a pass grants for a workunit, and archives of it.
abbrev pub granted : Pass → Workunit → List Grant
granted Validate w = validation.grants w
granted _ w = []

abbrev pub archives : Pass → ℕ → Workunit → List Archived
archives Assimilate now w = option_to_list (archived w now)
archives _ now w = []

abbrev pub is_among : List Workunit → Workunit → Bool
is_among workunits w = list_any (λ one. one.number == w.number) workunits

-- The world after a pass: the chosen workunits are replaced by their images, and their grants and archived rows come
-- after those that are there.
abbrev pub passed : Pass → ℕ → ℕ → ℕ → World → World
passed pass now min_age limit world =
    let taken = chosen pass now min_age limit world in
    record world {
      workunits = flat_map (λ w. if is_among taken w then images pass now w else w ∷ []) world.workunits;
      grants = world.grants ++ flat_map (granted pass) taken;
      archived = world.archived ++ flat_map (archives pass now) taken;
    }

-- How many workunits a pass changes.
abbrev pub handled : Pass → ℕ → ℕ → ℕ → World → ℕ
handled pass now min_age limit world = length (chosen pass now min_age limit world)
