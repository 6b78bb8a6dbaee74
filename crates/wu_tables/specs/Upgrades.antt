-- The names that an upgrade of a project gives, and which of them something has already.
use Rattle.std.specs.Prelude.{◌≡◌, ℕ, nat_lt, if◌then◌else◌, List, [], ◌++◌, take, Some, slice_get}
use Rattle.sqlite.specs.Schema.{Schema}
use Rattle.wu_core.specs.Limits.{class_version, queue_version}
use Rattle.wu_schema.specs.Made.{AreFree, class_tables, names_of}
use Rattle.wu_schema.specs.Queue.{queue_names}
use Rattle.wu_schema.specs.Refines.{IsFree}

-- The names that an upgrade of a project of this version gives: of the queue and its indexes, if the version has none,
-- and then of the tables of classes, if it has none.
abbrev pub upgrade_names : ℕ → List (List ℕ)
upgrade_names version =
    if nat_lt version queue_version then queue_names ++ names_of class_tables
    else if nat_lt version class_version then names_of class_tables
    else []

-- Nothing has a name that an upgrade of a project of this version gives.
abbrev pub HasFreeNames : Schema → ℕ → Type 0
HasFreeNames schema version = AreFree schema (upgrade_names version)

-- Something has this name, the first of these names that is not free.
pub record IsFirstTaken (schema : Schema) (names : List (List ℕ)) (name : List ℕ) : Type 0 where
  pub place : ℕ
  pub there : slice_get names place ≡ Some name
  pub taken : ¬ IsFree schema name
  pub before : AreFree schema (take place names)

-- Something, be it a table, an index or a view, has this name, the first one taken of those that an upgrade of a project
-- of this version gives.
abbrev pub TakesUpgradeName : Schema → ℕ → List ℕ → Type 0
TakesUpgradeName schema version name = IsFirstTaken schema (upgrade_names version) name
