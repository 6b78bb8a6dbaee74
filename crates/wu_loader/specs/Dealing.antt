-- Instances in order of their workunits' numbers and their own, and which of them belong to a workunit.
use Rattle.std.specs.Prelude.{◌≡◌, ℕ, ◌≤◌, ◌∷◌, [], All, List, length, map}
use Rattle.std.specs.List.{enumerate_from, flat_map}
use Rattle.std.specs.Ordering.{nat_cmp, on, then_cmp}
use Rattle.std.specs.declared.cmp.Ordering.{Ordering}
use Rattle.wu_core.specs.Limits.{most_instances}
use Rattle.wu_core.specs.declared.workunit.Instance.{Instance}
use Rattle.wu_core.specs.declared.workunit.Workunit.{Workunit}
use Rattle.wu_store.specs.Changes.{without_instances}
use Rattle.wu_loader.specs.declared.rows.Placed.{Placed}

-- The order of instances: by the workunit's number, then by their own.
abbrev pub by_place : Placed → Placed → Ordering
by_place = then_cmp (on (λ (p : Placed). p.workunit) nat_cmp) (on (λ (p : Placed). p.n) nat_cmp)

-- The instances of a workunit, numbered from 0.
abbrev pub placed_from : ℕ → List Instance → List Placed
placed_from workunit instances = map (λ (p : ℕ × Instance). record { workunit = workunit; n = p.0; instance = p.1 }) (enumerate_from 0 instances)

abbrev pub placed_of : Workunit → List Placed
placed_of w = placed_from w.number w.instances

-- The first instance is the one of this workunit and this number.
abbrev pub IsNext : ℕ → ℕ → List Placed → Type 0
IsNext workunit n [] = ⊥
IsNext workunit n (p ∷ more) = (p.workunit ≡ workunit) × (p.n ≡ n)

-- These are the workunits, each with its share of these instances.
pub record AreDealt (workunits : List Workunit) (placed : List Placed) (dealt : List Workunit) : Type 0 where
  pub bare : map without_instances dealt ≡ map without_instances workunits
  pub all : flat_map placed_of dealt ≡ placed
  -- A workunit has at most 100 instances.
  pub few : All (λ (w : Workunit). length w.instances ≤ most_instances) dealt
