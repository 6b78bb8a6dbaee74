-- How stored columns and rows read as values: exactly as the values that are stored so, or out of memory.
use Rattle.std.specs.Prelude.{◌≡◌, ◌⊎◌, ℕ, List, [], ◌∷◌, map, take}
use Rattle.std.specs.List.{range_with_len}
use Rattle.sqlite.specs.Order.{Row, column}
use Rattle.wu_core.specs.declared.fault.Fault.{Fault}
use Rattle.wu_core.specs.declared.fault.Fault.TheVariants.{Memory, NotAProject}
use Rattle.wu_core.specs.declared.import.ImportKind.{ImportKind}
use Rattle.wu_core.specs.declared.mask.ErrorMask.{ErrorMask}
use Rattle.wu_core.specs.declared.states.Assimilate.{Assimilate}
use Rattle.wu_core.specs.declared.states.FileDelete.{FileDelete}
use Rattle.wu_core.specs.declared.states.Outcome.{Outcome}
use Rattle.wu_core.specs.declared.states.ServerState.{ServerState}
use Rattle.wu_core.specs.declared.states.ValidateState.{ValidateState}
use Rattle.wu_core.specs.declared.workunit.HostClass.{HostClass}
use Rattle.wu_core.specs.declared.workunit.Instance.{Instance}
use Rattle.wu_core.specs.Codes.{assimilate_code, file_delete_code, import_kind_code, outcome_code, server_state_code, validate_state_code}
use Rattle.wu_core.specs.Mask.{error_mask_code}
use Rattle.wu_schema.specs.Stored.{host_cells, instance_row, number, number_or_null, verdict_digits}
use Rattle.wu_schema.specs.declared.rows.HostSum.{HostSum}
use Rattle.wu_schema.specs.declared.rows.Progress.{Progress}
use Rattle.wu_schema.specs.declared.rows.Moments.{Moments}
use Rattle.wu_schema.specs.declared.rows.States.{States}
use Rattle.wu_schema.specs.declared.rows.StoredImport.{StoredImport}
use Rattle.sqlite.specs.declared.types.Value.{Value}
use Rattle.sqlite.specs.declared.types.Value.TheVariants.{Text, Blob}
use Rattle.wu_core.specs.Storable.{IsClass, IsName, IsPlace, IsStoredInstance, IsStamped, AreMoments, AreVerdicts}

-- So many columns from this one on.
abbrev pub columns : Row → ℕ → ℕ → Row
columns row from count = map (column row) (range_with_len from count)

-- The columns of a kind of import, of a mask, of states and of verdicts.
abbrev pub kind_cell : ImportKind → Value
kind_cell kind = number (import_kind_code kind)

abbrev pub mask_cell : ErrorMask → Value
mask_cell mask = number (error_mask_code mask)

abbrev pub assimilate_cell : Assimilate → Value
assimilate_cell state = number (assimilate_code state)

abbrev pub file_delete_cell : FileDelete → Value
file_delete_cell state = number (file_delete_code state)

abbrev pub server_state_cell : ServerState → Value
server_state_cell state = number (server_state_code state)

abbrev pub outcome_cell : Outcome → Value
outcome_cell outcome = number (outcome_code outcome)

abbrev pub validate_state_cell : ValidateState → Value
validate_state_cell state = number (validate_state_code state)

abbrev pub verdicts_cell : List ℕ → Value
verdicts_cell verdicts = Text (verdict_digits verdicts)

-- The columns of how far a workunit is.
abbrev pub progress_cells : Progress → Row
progress_cells p =
    number (error_mask_code p.error_mask) ∷ number_or_null p.canonical ∷ number (assimilate_code p.assimilate)
    ∷ number (file_delete_code p.file_delete) ∷ number_or_null p.done_at ∷ []

pub record IsProgress (p : Progress) : Type 0 where
  pub canonical : IsPlace p.canonical
  pub stamped : IsStamped p.assimilate p.done_at

-- The columns of an instance's states, and of its moments.
abbrev pub state_cells : States → Row
state_cells s =
    number (server_state_code s.server_state) ∷ number (outcome_code s.outcome) ∷ number (validate_state_code s.validate_state)
    ∷ number (file_delete_code s.file_delete) ∷ []

abbrev pub moment_cells : Moments → Row
moment_cells m = number_or_null m.sent_at ∷ number_or_null m.deadline ∷ number_or_null m.received_at ∷ []

abbrev pub HasMoments : Moments → Type 0
HasMoments m = AreMoments m.sent_at m.deadline m.received_at

-- The columns of an instance except its output, the last one.
abbrev pub bare_instance_row : Instance → Row
bare_instance_row i = take 8 (instance_row i)

-- An instance without its output, as these columns are read.
pub record IsBareInstance (i : Instance) : Type 0 where
  pub stored : IsStoredInstance i
  pub bare : i.output ≡ []

-- The row of a host with the sum of its grants, as it is read.
abbrev pub host_row : HostSum → Row
host_row host = host_cells host.name host.total host.grants

abbrev pub IsStoredHost : HostSum → Type 0
IsStoredHost host = IsName host.name

-- The host has a valid name, and its class is in range.
pub record IsStoredHostClass (it : HostClass) : Type 0 where
  pub host : IsName it.host
  pub class : IsClass it.class

-- The row of an import, as it is read.
abbrev pub stored_import_row : StoredImport → Row
stored_import_row import =
    Blob import.template ∷ Blob import.content ∷ number import.first_number ∷ Text (verdict_digits import.verdicts) ∷ []

abbrev pub HasStoredVerdicts : ImportKind → StoredImport → Type 0
HasStoredVerdicts kind import = AreVerdicts kind import.verdicts

-- The fault is that the row is no value of its type, or out of memory.
abbrev pub IsReadFault : Fault → Type 0
IsReadFault fault = (fault ≡ Memory) ⊎ (fault ≡ NotAProject)
