-- The transitioner.
use Rattle.std.specs.Prelude.{ℕ, ◌+◌, ◌-◌, ◌==◌, nat_lt, min, Bool, false, not, ◌&&◌, ◌||◌, if◌then◌else◌, List, ◌++◌, map, length, replicate, Option}
use Rattle.std.specs.List.{list_all, enumerate_from}
use Rattle.std.specs.Option.{option_map_or}
use Rattle.wu_core.specs.declared.workunit.Instance.{Instance}
use Rattle.wu_core.specs.declared.workunit.Workunit.{Workunit}
use Rattle.wu_core.specs.Workunit.{fresh}
use Rattle.wu_rules.specs.Instances.{is_over, is_viable, timed_out, given_up, readied_assimilate, is_done_assimilate, readied_file, output_readied}
use Rattle.wu_rules.specs.Counts.{has_active, unsent, in_progress, errors, kept, is_clear, is_undecided}
use Rattle.wu_rules.specs.Validation.{is_to_validate}

-- The workunit after timeouts: each instance in progress whose deadline has passed is over without a reply.
abbrev pub timed : Workunit → ℕ → Workunit
timed w now = record w { instances = map (timed_out now) w.instances }

-- Whether an undecided workunit has more errors than it allows, so that it is given up.
abbrev pub has_too_many_errors : Workunit → Bool
has_too_many_errors w = is_undecided w && nat_lt w.params.max_error_results (errors w)

-- Whether the workunit is undecided with no more errors than it allows.
abbrev pub is_open : Workunit → Bool
is_open w = is_undecided w && not (nat_lt w.params.max_error_results (errors w))

-- How many results are still needed.
abbrev pub needed : Workunit → ℕ
needed w = w.params.target_nresults - (unsent w + in_progress w + kept w)

-- How many instances may still be made.
abbrev pub allowed : Workunit → ℕ
allowed w = w.params.max_total_results - length w.instances

-- How many instances are made.
abbrev pub added : Workunit → ℕ
added w = if is_open w then min (needed w) (allowed w) else 0

-- Whether no instance is unsent or in progress, and the validator has nothing to do.
abbrev pub is_idle : Workunit → Bool
is_idle w = unsent w == 0 && in_progress w == 0 && not (is_to_validate w)

-- Whether an open and idle workunit needs more instances and may have none, so that it is given up.
abbrev pub has_too_many_total : Workunit → Bool
has_too_many_total w = is_open w && nat_lt 0 (needed w) && allowed w == 0 && is_idle w

-- The workunit with the new bits of its mask and its new instances.
abbrev pub extended : Workunit → Workunit
extended w = record w {
  error_mask = record w.error_mask {
    too_many_error_results = w.error_mask.too_many_error_results || has_too_many_errors w;
    too_many_total_results = w.error_mask.too_many_total_results || has_too_many_total w;
  };
  instances = w.instances ++ replicate (added w) fresh;
}

-- The workunit after it is given up: unsent instances are closed, viable successes are not checked, and it is ready to
-- be assimilated.
abbrev pub ended : Workunit → Workunit
ended w = record w { assimilate = readied_assimilate w.assimilate; instances = map given_up w.instances }

-- The workunit, ended if it is given up.
abbrev pub settled : Workunit → Workunit
settled w = if is_clear w.error_mask then w else ended w

-- Whether all instances are over, so that no result can come.
abbrev pub is_all_over : Workunit → Bool
is_all_over w = list_all is_over w.instances

-- Whether an instance is over, and no viable success.
abbrev pub is_finished : Instance → Bool
is_finished i = is_over i && not (is_viable i)

-- Whether an output may be deleted: once its instance is finished; the canonical one once all instances are.
abbrev pub may_output_go : Option ℕ → Bool → ℕ → Instance → Bool
may_output_go canonical is_all_finished n i =
    if option_map_or (λ c. c == n) canonical false then is_all_finished else is_finished i

abbrev pub with_output_readied : Option ℕ → Bool → ℕ → Instance → Instance
with_output_readied canonical is_all_finished n i =
    output_readied (may_output_go canonical is_all_finished n i) i

abbrev pub outputs_readied : Option ℕ → List Instance → List Instance
outputs_readied canonical instances =
    map (λ p. with_output_readied canonical (list_all is_finished instances) p.0 p.1) (enumerate_from 0 instances)

-- The workunit with its files ready for deletion: its input if all instances are over, and each output that may be
-- deleted.
abbrev pub with_files_readied : Workunit → Workunit
with_files_readied w = record w {
  file_delete = readied_file (is_all_over w) w.file_delete;
  instances = outputs_readied w.canonical w.instances;
}

-- The workunit, with its files ready for deletion once it is assimilated.
abbrev pub readied : Workunit → Workunit
readied w = if is_done_assimilate w.assimilate then with_files_readied w else w

-- The workunit, bound to no class if it is not active.
abbrev pub unbound : Workunit → Workunit
unbound w = record w { class = if has_active w then w.class else 0 }

-- What the transitioner makes of a workunit at a moment.
unfoldable pub transitioned : Workunit → ℕ → Workunit
transitioned w now = unbound (readied (settled (extended (timed w now))))
