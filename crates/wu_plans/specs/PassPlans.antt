-- The plan of a pass: what it makes of the workunits that it takes, and the changes that make it so.
use Rattle.std.specs.Prelude.{◌≡◌, ℕ, List, [], ◌∷◌, ◌++◌, flat_map, map, option_to_list, true, Result, IfOk, OnOk, Vec}
use Rattle.wu_core.specs.declared.fault.Fault.{Fault}
use Rattle.wu_core.specs.declared.workunit.Archived.{Archived}
use Rattle.wu_core.specs.declared.workunit.Grant.{Grant}
use Rattle.wu_core.specs.declared.workunit.Workunit.{Workunit}
use Rattle.wu_core.specs.World.{World}
use Rattle.wu_rules.specs.Transition.{transitioned}
use Rattle.wu_rules.specs.Validation as validation
use Rattle.wu_rules.specs.Assimilation.{assimilated, emptied}
use Rattle.wu_store.specs.Changes.{IsNextPlace}
use Rattle.wu_store.specs.Changing.{archived_from, KeepsFrom, KeepsGrants}
use Rattle.wu_rules.specs.Due.{chosen}
use Rattle.wu_store.specs.declared.changes.Change.{Change}
use Rattle.wu_store.specs.declared.changes.Change.TheVariants.{Remove, Replace}
use Rattle.wu_rules.specs.declared.due.Pass.{Pass}
use Rattle.wu_rules.specs.declared.due.Pass.TheVariants.{Transition, Validate, Assimilate, Delete, Purge}
use Rattle.wu_plans.specs.declared.plan.Plan.{Plan}
use Rattle.wu_plans.specs.declared.passes.Ask.{Ask}
use Rattle.wu_plans.specs.declared.passes.Handled.{Handled}
use Rattle.wu_plans.specs.declared.passes.Image.{Image}
use Rattle.wu_machine.specs.Machine.{is_limit_right, IsUpToDate}
use Rattle.wu_machine.specs.Passes.{archives, granted}
use Rattle.wu_plans.specs.Planning.{IsPlan}
use Rattle.wu_plans.specs.Summing.{AreFew}
use Rattle.wu_machine.specs.Sound.{IsProject}
use Rattle.wu_machine.specs.Requests.{Request, AskPass}

-- What a pass asks of the machine.
abbrev pub asked : Ask → Request
asked ask = AskPass ask.pass ask.moment ask.limit ask.min_age

-- How a pass changes a workunit: its image replaces it, or it is removed.
abbrev pub change_by : Pass → ℕ → Workunit → Change
change_by Transition now w = Replace w (transitioned w now)
change_by Validate now w = Replace w (validation.validated w)
change_by Assimilate now w = Replace w (assimilated w now)
change_by Delete now w = Replace w (emptied w)
change_by Purge now w = Remove w.number

-- This is what a pass makes of a workunit.
pub record IsImageOf (pass : Pass) (now : ℕ) (w : Workunit) (image : Image) : Type 0 where
  pub change : image.change ≡ change_by pass now w
  pub grants : image.grants.items ≡ granted pass w
  pub archived : option_to_list image.archived ≡ archives pass now w

-- What was made of one more workunit comes after what was made before.
pub record HandlesAlso (image : Image) (old new : Handled) : Type 0 where
  pub changes : new.changes.items ≡ old.changes.items ++ image.change ∷ []
  pub grants : new.grants.items ≡ old.grants.items ++ image.grants.items
  pub archived : new.archived.items ≡ old.archived.items ++ option_to_list image.archived

-- This is what a pass makes of workunits, in their order.
pub record HandlesAll (pass : Pass) (now : ℕ) (taken : List Workunit) (handled : Handled) : Type 0 where
  pub changes : handled.changes.items ≡ map (change_by pass now) taken
  pub grants : handled.grants.items ≡ flat_map (granted pass) taken
  pub archived : handled.archived.items ≡ flat_map (archives pass now) taken

-- The changes end with the one that keeps these grants from this place on. It has one sum for each host, except where
-- two would together exceed 64 bits.
pub record AddsFrom (place : ℕ) (grants : List Grant) (old new : List Change) : Type 0 where
  pub given : List Change
  pub keeps : KeepsFrom place grants given
  pub few : AreFew keeps.sums.items
  pub changes : new ≡ old ++ given

-- The changes end with what keeps these grants, at the next places of the world's grants.
pub record HasGrants (world : World) (grants : List Grant) (old new : List Change) : Type 0 where
  pub given : List Change
  pub keeps : KeepsGrants world.grants grants given
  pub changes : new ≡ old ++ given

abbrev pub PlansGrants : {T : Type 0} → List Grant → List Change → List Change → Result T Fault → World → Type 0
PlansGrants grants old new result world = OnOk result (HasGrants world grants old new)

-- The changes end with these archived rows, at the next places of the world's archived rows.
pub record HasArchivedRows (world : World) (rows : List Archived) (old new : List Change) : Type 0 where
  pub place : ℕ
  pub next : IsNextPlace place world.archived
  pub changes : new ≡ old ++ archived_from place rows

abbrev pub AddsArchivedRows : {T : Type 0} → List Archived → List Change → List Change → Result T Fault → World → Type 0
AddsArchivedRows rows old new result world = OnOk result (HasArchivedRows world rows old new)

-- The changes are those of workunits, then of grants, then of archived rows, each at the next places.
pub record HasGiven (world : World) (handled : Handled) (changes : List Change) : Type 0 where
  pub given : List Change
  pub row_place : ℕ
  pub keeps : KeepsGrants world.grants handled.grants.items given
  pub row_next : IsNextPlace row_place world.archived
  pub changes_are : changes ≡ handled.changes.items ++ given ++ archived_from row_place handled.archived.items

abbrev pub AddsGiven : {A : Type 0} → Handled → Result (Vec Change A) Fault → World → Type 0
AddsGiven handled result world = IfOk result (λ changes. HasGiven world handled changes.items)

-- Given the workunits that a pass chooses, this is the plan of what the machine does.
abbrev pub PlansTaken : Ask → List Workunit → Result Plan Fault → World → Type 0
PlansTaken ask taken result world =
    IsUpToDate world → IsProject world → taken ≡ chosen ask.pass ask.moment ask.min_age ask.limit world
    → is_limit_right ask.pass ask.limit ask.min_age ≡ true → IsPlan world (asked ask) result
