-- Sound worlds: verdicts, grants and archived rows agree, numbers and names are used once, and values are in their
-- ranges.
use Rattle.std.specs.Prelude.{◌≡◌, ◌≢◌, ◌↔◌, ℕ, ◌<◌, ◌≤◌, ◌+◌, ◌==◌, ◌&&◌, List, [], filter, length, All, AllPairs}
use Rattle.wu_core.specs.declared.workunit.Archived.{Archived}
use Rattle.wu_core.specs.declared.workunit.Grant.{Grant}
use Rattle.wu_core.specs.declared.workunit.Workunit.{Workunit}
use Rattle.wu_core.specs.Classes.{AreClassed, AreInOrder}
use Rattle.wu_core.specs.Formed.{IsWorkunit}
use Rattle.wu_core.specs.Limits.{class_version, most_credit, most_instances, most_workunits}
use Rattle.wu_core.specs.Mask.{IsPossibleMask}
use Rattle.wu_core.specs.World.{World, IsInOrder}
use Rattle.wu_rules.specs.Consistent.{IsConsistent, IsGrantFor, IsRowOf, is_done, is_valid_at, one_if}
use Rattle.wu_core.specs.Storable.{AreVerdicts, IsAbove, IsName, AreStorable, IsArchiveStorable, LoadsNext}
use Rattle.wu_machine.specs.Machine.{present_version}

-- The grants for an instance of a workunit.
abbrev pub grants_for : World → Workunit → ℕ → List Grant
grants_for world w n = filter (λ grant. grant.workunit == w.number && grant.n == n) world.grants

-- A workunit that is present agrees with the grants and with the archived rows.
pub record IsRecorded (world : World) (w : Workunit) : Type 0 where
  -- An instance has one grant if it is VALID, and else none; a number without an instance has none.
  pub granted : (n : ℕ) → length (grants_for world w n) ≡ one_if (is_valid_at w.instances n)
  -- Each grant is for the host of its instance, with the credit of its workunit.
  pub own : All (λ grant. grant.workunit ≡ w.number → IsGrantFor w grant) world.grants
  -- The workunit has one archived row if it is DONE, and else none.
  pub archived : length (filter (λ row. row.number == w.number) world.archived) ≡ one_if (is_done w)
  -- That row has the workunit's canonical number, error mask and moment.
  pub as_archived : All (λ row. row.number ≡ w.number → IsRowOf w row) world.archived
  -- Only the workunit's own archived row has its name.
  pub named : All (λ row. (row.name ≡ w.name) ↔ (row.number ≡ w.number)) world.archived

-- The mask of the archived row has no bit that this project never sets.
abbrev pub HasPossibleMask : Archived → Type 0
HasPossibleMask row = IsPossibleMask row.error_mask

-- The number was given to a workunit.
abbrev pub IsGiven : World → ℕ → Type 0
IsGiven world number = (1 ≤ number) × (number < world.next_number)

-- No host and no workunit has a class.
abbrev pub IsClassless : World → Type 0
IsClassless world = (world.classes ≡ []) × All (λ w. w.class ≡ 0) world.workunits

-- A world of a version without classes has none.
abbrev pub HasClassesInTime : World → Type 0
HasClassesInTime world = world.version < class_version → IsClassless world

pub record IsSound (world : World) : Type 0 where
  pub next_number : (1 ≤ world.next_number) × (world.next_number ≤ most_workunits + 1)
  pub formed : All IsWorkunit world.workunits
  -- The values of each workunit, grant, archived row and import are in their ranges.
  pub storable : AreStorable world
  pub granted_to : All (λ grant. IsName grant.host) world.grants
  pub archivable : IsArchiveStorable world
  pub imports : All (λ import. IsName import.name × AreVerdicts import.kind import.verdicts) world.imports
  pub consistent : All IsConsistent world.workunits
  pub recorded : All (IsRecorded world) world.workunits
  pub given : All (λ w. IsGiven world w.number) world.workunits
  pub ascending : IsInOrder world
  pub names : AllPairs (λ one other. one.name ≢ other.name) world.workunits
  pub archived : All (λ row. IsGiven world row.number) world.archived
  pub archived_masks : All HasPossibleMask world.archived
  pub archived_once : AllPairs (λ one other. one.number ≢ other.number) world.archived
  pub archived_names : AllPairs (λ one other. one.name ≢ other.name) world.archived
  pub grants : All (λ grant. IsGiven world grant.workunit × (grant.n < most_instances) × (grant.credit ≤ most_credit)) world.grants
  pub granted_once : AllPairs (λ one other. one.workunit ≡ other.workunit → one.n ≢ other.n) world.grants
  pub imported_once : AllPairs (λ one other. one.kind ≡ other.kind → one.name ≢ other.name) world.imports
  pub classed : AreClassed world.classes
  pub classes_in_order : AreInOrder world.classes
  pub classes_in_time : HasClassesInTime world

-- ---- what a command asks of a world

-- The verdicts of each import are numbers of verdicts on files of its kind.
abbrev pub HasVerdicts : World → Type 0
HasVerdicts world = All (λ import. AreVerdicts import.kind import.verdicts) world.imports

-- Commands run over this world: it is of a known version, and each sound world of one is so. Each workunit and each
-- class can be read, and no two workunits have the same name. Their numbers are below the next number, which is in
-- range, as are the verdicts of imports. A version without classes has none.
pub record IsProject (world : World) : Type 0 where
  pub first : 1 ≤ world.version
  pub known : world.version ≤ present_version
  pub above : IsAbove world.next_number world.workunits
  pub next : LoadsNext world
  pub verdicts : HasVerdicts world
  pub storable : AreStorable world
  pub names : AllPairs (λ one other. one.name ≢ other.name) world.workunits
  pub classed : AreClassed world.classes
  pub classes_in_time : HasClassesInTime world
