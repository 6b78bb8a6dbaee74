-- The parts of soundness, as what is asked of workunits, grants, archived rows and imports.
use Rattle.std.proofs.Common.{◌≡◌, ◌≢◌, ℕ, ◌<◌, ◌≤◌, ◌==◌, Bool}
use Rattle.std.specs.Prelude.{◌↔◌, ◌&&◌}
use Rattle.wu_core.specs.Limits.{most_credit, most_instances}
use Rattle.wu_core.specs.World.{World, Import}
use Rattle.wu_core.specs.declared.workunit.Archived.{Archived}
use Rattle.wu_core.specs.declared.workunit.Grant.{Grant}
use Rattle.wu_core.specs.declared.workunit.Workunit.{Workunit}
use Rattle.wu_rules.specs.Consistent.{IsGrantFor, IsRowOf}
use Rattle.wu_core.specs.Storable.{IsName}
use Rattle.wu_machine.specs.Sound.{IsGiven}

-- ---- one and another

abbrev pub Ordered : Workunit → Workunit → Type 0
Ordered one other = one.number < other.number

abbrev pub Differ : Workunit → Workunit → Type 0
Differ one other = one.name ≢ other.name

abbrev pub RowsDiffer : Archived → Archived → Type 0
RowsDiffer one other = one.number ≢ other.number

abbrev pub RowNamesDiffer : Archived → Archived → Type 0
RowNamesDiffer one other = one.name ≢ other.name

abbrev pub GrantsDiffer : Grant → Grant → Type 0
GrantsDiffer one other = one.workunit ≡ other.workunit → one.n ≢ other.n

abbrev pub ImportsDiffer : Import → Import → Type 0
ImportsDiffer one other = one.kind ≡ other.kind → one.name ≢ other.name

-- ---- grants

-- for an instance of the workunit, and for one of its number
abbrev pub is_for : Workunit → ℕ → Grant → Bool
is_for w n grant = grant.workunit == w.number && grant.n == n

abbrev pub is_at : ℕ → Grant → Bool
is_at n grant = grant.n == n

-- for the host of its instance, if it is of the workunit
abbrev pub IsOwn : Workunit → Grant → Type 0
IsOwn w grant = grant.workunit ≡ w.number → IsGrantFor w grant

abbrev pub IsToName : Grant → Type 0
IsToName grant = IsName grant.host

abbrev pub IsGrantIn : World → Grant → Type 0
IsGrantIn world grant = IsGiven world grant.workunit × (grant.n < most_instances) × (grant.credit ≤ most_credit)

-- ---- workunits and archived rows

abbrev pub IsIn : World → Workunit → Type 0
IsIn world w = IsGiven world w.number

abbrev pub IsRowIn : World → Archived → Type 0
IsRowIn world row = IsGiven world row.number

-- of the workunit
abbrev pub is_row_of : Workunit → Archived → Bool
is_row_of w row = row.number == w.number

-- of the workunit, as it is once it was rewritten
abbrev pub IsItsRow : Workunit → Workunit → Archived → Type 0
IsItsRow w v row = (row.number ≡ w.number) × (row.name ≡ w.name) × IsRowOf v row

-- if so, as the workunit
abbrev pub IsOwnRow : Workunit → Archived → Type 0
IsOwnRow w row = row.number ≡ w.number → IsRowOf w row

abbrev pub IsNamedAlike : Workunit → Archived → Type 0
IsNamedAlike w row = (row.name ≡ w.name) ↔ (row.number ≡ w.number)
