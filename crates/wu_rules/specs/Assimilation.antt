-- The assimilator, the file deleter and the purge.
use Rattle.std.specs.Prelude.{ℕ, ◌+◌, nat_le, Bool, false, ◌&&◌, ◌||◌, if◌then◌else◌, List, [], map, Option, Some, None}
use Rattle.std.specs.List.{list_all, list_any}
use Rattle.std.specs.Option.{option_map_or}
use Rattle.wu_core.specs.declared.workunit.Instance.{Instance}
use Rattle.wu_core.specs.declared.workunit.Workunit.{Workunit}
use Rattle.wu_core.specs.declared.workunit.Archived.{Archived}
use Rattle.wu_core.specs.declared.states.Assimilate.TheVariants as assimilate
use Rattle.wu_core.specs.declared.states.FileDelete.TheVariants as file_delete
use Rattle.wu_rules.specs.Instances.{is_over, is_ready_assimilate, is_done_assimilate, is_ready_file, is_deleted_file}
use Rattle.wu_rules.specs.Validation.{output_at}

-- The workunit after assimilation: one that is ready is DONE at this moment, and any other stays.
unfoldable pub assimilated : Workunit → ℕ → Workunit
assimilated w now =
    if is_ready_assimilate w.assimilate then record w { assimilate = assimilate.Done; done_at = Some now } else w

-- The output of the canonical result; no byte without one.
abbrev pub canonical_output : Workunit → List ℕ
canonical_output w = option_map_or (output_at w.instances) w.canonical []

abbrev pub archived_row : Workunit → ℕ → Archived
archived_row w now = record {
  number = w.number;
  name = w.name;
  error_mask = w.error_mask;
  canonical = w.canonical;
  output = canonical_output w;
  done_at = now;
}

-- The row that is archived permanently of a workunit that is ready; `None` for any other.
unfoldable pub archived : Workunit → ℕ → Option Archived
archived w now = if is_ready_assimilate w.assimilate then Some (archived_row w now) else None

-- The instance without its output, if that is ready for deletion.
abbrev pub without_output : Instance → Instance
without_output i =
    if is_ready_file i.file_delete then record i { file_delete = file_delete.Done; output = [] } else i

-- The workunit after file deletion: each input or output that is ready for deletion is emptied and DONE.
unfoldable pub emptied : Workunit → Workunit
emptied w = record w {
  input = if is_ready_file w.file_delete then [] else w.input;
  file_delete = if is_ready_file w.file_delete then file_delete.Done else w.file_delete;
  instances = map without_output w.instances;
}

-- Whether an input or an output of the workunit is ready for deletion.
unfoldable pub is_to_delete : Workunit → Bool
is_to_delete w = is_ready_file w.file_delete || list_any (λ i. is_ready_file i.file_delete) w.instances

-- Whether an instance is over and its output is deleted.
abbrev pub is_spent : Instance → Bool
is_spent i = is_over i && is_deleted_file i.file_delete

-- Whether a workunit may be purged: it was assimilated at least so long ago, all its instances are over, and all its
-- files are deleted.
unfoldable pub is_purgeable : Workunit → ℕ → ℕ → Bool
is_purgeable w now min_age =
    is_done_assimilate w.assimilate
    && is_deleted_file w.file_delete
    && list_all is_spent w.instances
    && option_map_or (λ done_at. nat_le (done_at + min_age) now) w.done_at false
