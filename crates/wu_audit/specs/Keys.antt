-- The keys of rows.
use Rattle.std.specs.Prelude.{◌≡◌, ◌≢◌, ℕ, ◌<◌, List, length, slice_index_or}
use Rattle.std.specs.Borrow.{Bor}
use Rattle.std.specs.Cmp.Lexicographic.{slice_cmp}
use Rattle.std.specs.Ordering.{nat_cmp}
use Rattle.std.specs.declared.cmp.Ordering.TheVariants.{Less}
use Rattle.wu_core.specs.declared.workunit.Archived.{Archived}
use Rattle.wu_core.specs.declared.workunit.Grant.{Grant}
use Rattle.wu_core.specs.declared.workunit.HostClass.{HostClass}
use Rattle.wu_core.specs.declared.workunit.Workunit.{Workunit}
use Rattle.wu_core.specs.Codes.{import_kind_code}
use Rattle.wu_core.specs.World.{Import}

-- The keys at the places below this one are those of the rows there.
pub record AreKeysBelow {X K : Type 0} (IsOf : X → K → Type 0) (rows : List X) (keys : List K) (p : ℕ) : Type 0 where
  pub length : length keys ≡ p
  pub each : (k : ℕ) (d : X) (e : K) → k < p → IsOf (slice_index_or rows k d) (slice_index_or keys k e)

-- These are the keys of the rows, in their order.
abbrev pub AreKeysOf : {X K : Type 0} → (X → K → Type 0) → List X → List K → Type 0
AreKeysOf IsOf rows keys = AreKeysBelow IsOf rows keys (length rows)

abbrev pub IsNameOf : Workunit → Bor (List ℕ) → Type 0
IsNameOf w name = name.now ≡ w.name

abbrev pub IsArchivedName : Archived → Bor (List ℕ) → Type 0
IsArchivedName row name = name.now ≡ row.name

-- The key of an import is its kind and its name.
abbrev pub IsImportKey : Import → ℕ × Bor (List ℕ) → Type 0
IsImportKey import key = (key.0 ≡ import_kind_code import.kind) × (key.1.now ≡ import.name)

-- The instance that a grant is for.
abbrev pub granted_instance : Grant → ℕ × ℕ
granted_instance grant = (grant.workunit, grant.n)

-- The two grants are not for one instance.
abbrev pub AreApart : Grant → Grant → Type 0
AreApart one other = one.workunit ≡ other.workunit → one.n ≢ other.n

-- The two imports do not have the same kind and name.
abbrev pub AreOtherImports : Import → Import → Type 0
AreOtherImports one other = one.kind ≡ other.kind → one.name ≢ other.name

-- The host's name comes before the other's, by its bytes.
abbrev pub IsBefore : HostClass → HostClass → Type 0
IsBefore one other = slice_cmp nat_cmp one.host other.host ≡ Less
