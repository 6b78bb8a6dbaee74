-- Which workunits a pass changes, and which of them it takes.
use Rattle.std.specs.Prelude.{ℕ, nat_le, Bool, false, List, filter, take}
use Rattle.std.specs.Option.{option_map_or}
use Rattle.wu_core.specs.declared.workunit.Workunit.{Workunit}
use Rattle.wu_core.specs.World.{World}
use Rattle.wu_rules.specs.Assimilation.{is_to_delete, is_purgeable}
use Rattle.wu_rules.specs.Instances.{is_ready_assimilate}
use Rattle.wu_rules.specs.Validation as validation
use Rattle.wu_rules.specs.Waking.{wake}
use Rattle.wu_rules.specs.declared.due.Pass.{Pass}
use Rattle.wu_rules.specs.declared.due.Pass.TheVariants.{Transition, Validate, Assimilate, Delete, Purge}

-- Whether a pass changes the workunit. For each pass except a purge, a law says that it then makes another of it.
abbrev pub changes : Pass → ℕ → ℕ → Workunit → Bool
changes Transition now min_age w = option_map_or (λ moment. nat_le moment now) (wake w) false
changes Validate now min_age w = validation.is_to_validate w
changes Assimilate now min_age w = is_ready_assimilate w.assimilate
changes Delete now min_age w = is_to_delete w
changes Purge now min_age w = is_purgeable w now min_age

-- The workunits that a pass takes: the first ones by number that it changes, up to the limit.
abbrev pub chosen : Pass → ℕ → ℕ → ℕ → World → List Workunit
chosen pass now min_age limit world = take limit (filter (changes pass now min_age) world.workunits)
