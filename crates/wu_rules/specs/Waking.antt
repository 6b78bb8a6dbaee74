-- When the transitioner has something to do.
use Rattle.std.specs.Prelude.{ℕ, ◌+◌, nat_lt, Bool, not, ◌&&◌, ◌||◌, if◌then◌else◌, List, min, Option, Some, None, option_map}
use Rattle.std.specs.List.{filter_map, list_any, list_all, reduce, enumerate_from}
use Rattle.wu_core.specs.declared.workunit.Instance.{Instance}
use Rattle.wu_core.specs.declared.workunit.Workunit.{Workunit}
use Rattle.wu_rules.specs.Instances.{is_unsent, is_viable, is_in_progress, is_init_assimilate, is_done_assimilate, is_init_file}
use Rattle.wu_rules.specs.Counts.{has_active, is_clear}
use Rattle.wu_rules.specs.Transition.{has_too_many_errors, has_too_many_total, added, is_all_over, is_finished, may_output_go}

-- Whether a workunit that is given up has an instance or a state that is not settled yet.
abbrev pub is_unsettled : Workunit → Bool
is_unsettled w =
    not (is_clear w.error_mask)
    && (is_init_assimilate w.assimilate || list_any is_unsent w.instances || list_any is_viable w.instances)

-- Whether this output may be deleted and is not yet ready for it.
abbrev pub is_output_to_ready : Option ℕ → Bool → ℕ → Instance → Bool
is_output_to_ready canonical is_all_finished n i = may_output_go canonical is_all_finished n i && is_init_file i.file_delete

-- Whether an output may be deleted and is not yet ready for it.
abbrev pub has_output_to_ready : Option ℕ → List Instance → Bool
has_output_to_ready canonical instances =
    list_any (λ p. is_output_to_ready canonical (list_all is_finished instances) p.0 p.1) (enumerate_from 0 instances)

-- Whether, after assimilation, a file may be deleted and is not yet ready for it.
abbrev pub has_files_to_ready : Workunit → Bool
has_files_to_ready w =
    is_done_assimilate w.assimilate
    && ((is_all_over w && is_init_file w.file_delete) || has_output_to_ready w.canonical w.instances)

-- Whether the workunit is bound to a class though it is not active.
abbrev pub is_to_unbind : Workunit → Bool
is_to_unbind w = not (has_active w) && nat_lt 0 w.class

-- Whether the transitioner has something to do, whatever the moment.
abbrev pub is_due : Workunit → Bool
is_due w =
    has_too_many_errors w
    || nat_lt 0 (added w)
    || has_too_many_total w
    || is_unsettled w
    || has_files_to_ready w
    || is_to_unbind w

-- The first second after the deadline of an instance in progress; else `None`.
abbrev pub overdue_from : Instance → Option ℕ
overdue_from i = if is_in_progress i then option_map (λ deadline. deadline + 1) i.deadline else None

-- The first moment at which the transitioner has something to do: at once, or after the first deadline; `None` if it
-- never has.
unfoldable pub wake : Workunit → Option ℕ
wake w = if is_due w then Some 0 else reduce min (filter_map overdue_from w.instances)
