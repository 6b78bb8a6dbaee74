-- The marks of a workunit: what each pass selects it by, whatever the moment.
use Rattle.std.specs.Prelude.{ℕ, ◌+◌, nat_le, Bool, false, ◌&&◌, if◌then◌else◌, Option, None}
use Rattle.std.specs.List.{list_all}
use Rattle.std.specs.Option.{option_map_or}
use Rattle.wu_core.specs.declared.workunit.Workunit.{Workunit}
use Rattle.wu_rules.specs.Assimilation.{is_spent, is_to_delete}
use Rattle.wu_rules.specs.Instances.{is_deleted_file, is_done_assimilate, is_ready_assimilate}
use Rattle.wu_rules.specs.Validation as validation
use Rattle.wu_rules.specs.Waking.{wake}
use Rattle.wu_rules.specs.declared.due.Pass.{Pass}
use Rattle.wu_rules.specs.declared.due.Pass.TheVariants.{Transition, Validate, Assimilate, Delete, Purge}
use Rattle.wu_core.specs.declared.marks.Marks.{Marks}

-- Whether a workunit is assimilated, all its instances are over, and all its files are deleted; only its age may still
-- be too low for a purge.
abbrev pub is_through : Workunit → Bool
is_through w = is_done_assimilate w.assimilate && is_deleted_file w.file_delete && list_all is_spent w.instances

-- The moment since which a workunit waits for its purge; `None` if it does not.
abbrev pub purge_from : Workunit → Option ℕ
purge_from w = if is_through w then w.done_at else None

unfoldable pub marks : Workunit → Marks
marks w = record {
  wake = wake w;
  to_validate = validation.is_to_validate w;
  to_assimilate = is_ready_assimilate w.assimilate;
  to_delete = is_to_delete w;
  purge_from = purge_from w;
}

-- Whether a pass selects by these marks, at this moment and least age.
abbrev pub selects : Pass → ℕ → ℕ → Marks → Bool
selects Transition now min_age m = option_map_or (λ moment. nat_le moment now) m.wake false
selects Validate now min_age m = m.to_validate
selects Assimilate now min_age m = m.to_assimilate
selects Delete now min_age m = m.to_delete
selects Purge now min_age m = option_map_or (λ done_at. nat_le (done_at + min_age) now) m.purge_from false
