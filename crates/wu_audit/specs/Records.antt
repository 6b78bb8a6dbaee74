-- Whether workunits, grants and archived rows agree, as properties of one row at a time.
use Rattle.std.specs.Prelude.{◌≡◌, ◌≢◌, ℕ, true, false, List, All, AllPairs, Any}
use Rattle.wu_core.specs.declared.workunit.Archived.{Archived}
use Rattle.wu_core.specs.declared.workunit.Grant.{Grant}
use Rattle.wu_core.specs.declared.workunit.Workunit.{Workunit}
use Rattle.wu_core.specs.World.{World}
use Rattle.wu_audit.specs.Keys.{AreApart}
use Rattle.wu_rules.specs.Consistent.{IsGrantFor, IsRowOf, is_done, is_valid_at}

-- The grant is for a VALID instance of the workunit, for its host and with the workunit's credit.
pub record IsGrantOf (w : Workunit) (grant : Grant) : Type 0 where
  pub own : IsGrantFor w grant
  pub valid : is_valid_at w.instances grant.n ≡ true

-- If one of these workunits has the grant's number, the grant is for a VALID instance of it, with its host and its
-- credit.
abbrev pub IsBackedGrant : List Workunit → Grant → Type 0
IsBackedGrant workunits grant = All (λ w. grant.workunit ≡ w.number → IsGrantOf w grant) workunits

-- Each VALID instance of the workunit has one of these grants.
abbrev pub IsGranted : List Grant → Workunit → Type 0
IsGranted grants w = (n : ℕ) → is_valid_at w.instances n ≡ true
    → Any (λ grant. (grant.workunit ≡ w.number) × (grant.n ≡ n)) grants

-- The row is that of the workunit, which is DONE.
pub record IsArchivedOf (w : Workunit) (row : Archived) : Type 0 where
  pub done : is_done w ≡ true
  pub values : IsRowOf w row
  pub name : row.name ≡ w.name

-- If one of these workunits has the row's number, the row is that of the workunit, which is DONE.
abbrev pub IsBackedRow : List Workunit → Archived → Type 0
IsBackedRow workunits row = All (λ w. row.number ≡ w.number → IsArchivedOf w row) workunits

-- If the workunit is DONE, one of these rows has its number.
abbrev pub IsArchivedIfDone : List Archived → Workunit → Type 0
IsArchivedIfDone archived w = is_done w ≡ true → Any (λ row. row.number ≡ w.number) archived

-- If the workunit is not DONE, none of these rows has its name.
abbrev pub IsNameFree : List Archived → Workunit → Type 0
IsNameFree archived w = is_done w ≡ false → All (λ row. row.name ≢ w.name) archived

-- Workunits, grants and archived rows agree.
pub record AreBacked (world : World) : Type 0 where
  pub grants : All (IsBackedGrant world.workunits) world.grants
  pub granted : All (IsGranted world.grants) world.workunits
  pub rows : All (IsBackedRow world.workunits) world.archived
  pub kept : All (IsArchivedIfDone world.archived) world.workunits
  pub free : All (IsNameFree world.archived) world.workunits

-- No instance has two grants, and no archived row has the number or the name of another.
pub record HasKeys (world : World) : Type 0 where
  pub granted_once : AllPairs AreApart world.grants
  pub archived_once : AllPairs (λ one other. one.number ≢ other.number) world.archived
  pub archived_names : AllPairs (λ one other. one.name ≢ other.name) world.archived
