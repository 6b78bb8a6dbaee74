-- The world: what a project holds, independent of any tables.
use Rattle.std.specs.Prelude.{◌≡◌, ◌≢◌, ◌⊎◌, ℕ, ◌<◌, ◌==◌, Bool, ◌&&◌, List, [], AllPairs, bytes_eq}
use Rattle.wu_core.specs.Limits.{present_version}
use Rattle.wu_core.specs.declared.workunit.Workunit.{Workunit}
use Rattle.wu_core.specs.declared.workunit.Grant.{Grant}
use Rattle.wu_core.specs.declared.workunit.Archived.{Archived}
use Rattle.wu_core.specs.declared.workunit.HostClass.{HostClass}
use Rattle.wu_core.specs.declared.import.ImportKind.{ImportKind}
use Rattle.wu_core.specs.declared.import.ImportKind.TheVariants as kind
use Rattle.wu_core.specs.Codes.{import_kind_code}

-- What is kept permanently of an imported file: its content, and its first answer.
pub record Import : Type 0 where
  pub kind : ImportKind
  pub name : List ℕ
  pub template : List ℕ
  pub content : List ℕ
  -- The number of the first workunit of a batch; 0 if it made none.
  pub first_number : ℕ
  -- A number for each row: 0 if the row was applied, else the number of the reason for its skip.
  pub verdicts : List ℕ

-- Whether an import has this kind and this name.
abbrev pub is_import : ImportKind → List ℕ → Import → Bool
is_import kind name import = import_kind_code import.kind == import_kind_code kind && bytes_eq import.name name

-- The import made no workunit: it is no batch, or a batch without a job.
abbrev pub MadeNone : Import → Type 0
MadeNone import = (import.kind ≢ kind.Batch) ⊎ (import.verdicts ≡ [])

-- Only a batch has a template, and only a batch with a job has a first number.
pub record MayBeKept (import : Import) : Type 0 where
  pub template : import.kind ≢ kind.Batch → import.template ≡ []
  pub first_number : MadeNone import → import.first_number ≡ 0

-- The greatest number of a reason for a skip.
abbrev pub last_skip : ImportKind → ℕ
last_skip kind.Batch = 0
last_skip kind.Sent = 4
last_skip kind.Reported = 5
last_skip kind.Classes = 0

-- The state of a project. Workunits are in order of number, hosts with a class in order of name. Grants, archived rows
-- and imports are in the order in which they came.
pub record World : Type 0 where
  pub workunits : List Workunit
  pub grants : List Grant
  pub archived : List Archived
  pub imports : List Import
  pub classes : List HostClass
  -- The number that the next workunit gets.
  pub next_number : ℕ
  -- The version of the schema.
  pub version : ℕ

-- The world before any command, at the present version.
abbrev pub empty_world : World
empty_world = record { workunits = []; grants = []; archived = []; imports = []; classes = []; next_number = 1; version = present_version }

-- The workunits are in order of their numbers, and no two have the same number.
abbrev pub IsInOrder : World → Type 0
IsInOrder world = AllPairs (λ one other. one.number < other.number) world.workunits
