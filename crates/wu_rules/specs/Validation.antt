-- The validator.
use Rattle.std.specs.Prelude.{ℕ, ◌+◌, nat_lt, nat_le, Bool, true, false, ◌&&◌, if◌then◌else◌, is_none, List, [], ◌∷◌, map, length, bytes_eq, slice_get, Option, Some, None, option_map}
use Rattle.std.specs.List.{filter_map, enumerate_from}
use Rattle.std.specs.Option.{option_map_or}
use Rattle.wu_core.specs.declared.workunit.Instance.{Instance}
use Rattle.wu_core.specs.declared.workunit.Workunit.{Workunit}
use Rattle.wu_core.specs.declared.workunit.Grant.{Grant}
use Rattle.wu_core.specs.declared.states.Outcome.TheVariants as outcome
use Rattle.wu_core.specs.declared.states.ValidateState.{ValidateState}
use Rattle.wu_core.specs.declared.states.ValidateState.TheVariants as validate
use Rattle.wu_core.specs.Parameters.{Parameters}
use Rattle.wu_rules.specs.Instances.{is_viable, is_new, is_deleted_file, closed, readied_assimilate}
use Rattle.wu_rules.specs.Counts.{viable, has_new_success, is_clear, consensus}

-- Whether the validator looks at a workunit: it has no error and a new success. It also has a canonical result, or at
-- least as many viable successes as its quorum.
abbrev pub is_to_validate : Workunit → Bool
is_to_validate w =
    is_clear w.error_mask
    && has_new_success w
    && (if is_none w.canonical then nat_le w.params.min_quorum (length (viable w)) else true)

-- ---- what is refused

-- Whether the validator judges an instance: viable successes before the decision, and new ones after it.
abbrev pub is_judged_where : Bool → Instance → Bool
is_judged_where undecided i = if undecided then is_viable i else is_new i

abbrev pub is_judged : Workunit → Instance → Bool
is_judged w i = is_judged_where (is_none w.canonical) i

abbrev pub is_empty : List ℕ → Bool
is_empty [] = true
is_empty (byte ∷ bytes) = false

-- Whether the validator judges a success whose output is empty.
abbrev pub is_no_result : Bool → Instance → Bool
is_no_result undecided i = is_judged_where undecided i && is_empty i.output

-- The instance, refused: an error of validation, and INVALID.
abbrev pub refused : Instance → Instance
refused i = record i { outcome = outcome.ValidateError; validate_state = validate.Invalid }

abbrev pub refused_where : Bool → Instance → Instance
refused_where undecided i = if is_no_result undecided i then refused i else i

-- The workunit with its judged empty successes refused.
abbrev pub with_refused : Bool → Workunit → Workunit
with_refused undecided w = record w { instances = map (refused_where undecided) w.instances }

-- The workunit, with its judged empty successes refused if the validator looks at it.
abbrev pub checked : Workunit → Workunit
checked w = if is_to_validate w then with_refused (is_none w.canonical) w else w

-- ---- what the others decide

-- The output of the instance of this number; no byte without that instance.
abbrev pub output_at : List Instance → ℕ → List ℕ
output_at instances n = option_map_or (λ i. i.output) (slice_get instances n) []

-- Whether the output of the instance of this number was deleted.
abbrev pub is_deleted_at : List Instance → ℕ → Bool
is_deleted_at instances n = option_map_or (λ i. is_deleted_file i.file_delete) (slice_get instances n) false

-- Equal bytes are VALID, and others INVALID.
abbrev pub verdict : Bool → ValidateState
verdict is_equal = if is_equal then validate.Valid else validate.Invalid

-- Once there is a canonical output: each viable success gets its verdict, and unsent instances are closed.
abbrev pub judged : Bool → Instance → Instance
judged is_equal i = if is_viable i then record i { validate_state = verdict is_equal } else closed i

abbrev pub judged_by : List ℕ → Instance → Instance
judged_by output i = judged (bytes_eq i.output output) i

-- All instances, judged by the output of the instance of this number.
abbrev pub all_judged : ℕ → List Instance → List Instance
all_judged n instances = map (judged_by (output_at instances n)) instances

-- The workunit with the instance of this number as its canonical result.
abbrev pub agreed_on : Workunit → ℕ → Workunit
agreed_on w n = record w {
  canonical = Some n;
  assimilate = readied_assimilate w.assimilate;
  instances = all_judged n w.instances;
}

-- Without a consensus each viable success is INCONCLUSIVE.
abbrev pub doubted : Instance → Instance
doubted i = if is_viable i then record i { validate_state = validate.Inconclusive } else i

-- If the workunit is given up for lack of a consensus, unsent instances are closed too.
abbrev pub doubted_or_closed : Instance → Instance
doubted_or_closed i = if is_viable i then record i { validate_state = validate.Inconclusive } else closed i

-- The target: if the viable successes have reached it without a consensus, it is raised to one more than they are.
abbrev pub raised_target : Parameters → ℕ → ℕ
raised_target p successes = if nat_le p.target_nresults successes then successes + 1 else p.target_nresults

-- Without a consensus, more successes than allowed end the workunit; otherwise its target may be raised.
abbrev pub left_open : Workunit → Workunit
left_open w =
    if nat_lt w.params.max_success_results (length (viable w))
    then record w {
      error_mask = record w.error_mask { too_many_success_results = true };
      instances = map doubted_or_closed w.instances;
    }
    else record w {
      params = record w.params { target_nresults = raised_target w.params (length (viable w)) };
      instances = map doubted w.instances;
    }

-- The verdict on a new success after the decision: TOO_LATE if the canonical output is deleted, else by that output.
abbrev pub late_verdict : Bool → Bool → ValidateState
late_verdict is_gone is_equal = if is_gone then validate.TooLate else verdict is_equal

abbrev pub judged_late : Bool → Bool → Instance → Instance
judged_late is_gone is_equal i = if is_new i then record i { validate_state = late_verdict is_gone is_equal } else i

abbrev pub judged_late_by : Bool → List ℕ → Instance → Instance
judged_late_by is_gone output i = judged_late is_gone (bytes_eq i.output output) i

abbrev pub all_judged_late : Bool → ℕ → List Instance → List Instance
all_judged_late is_gone n instances = map (judged_late_by is_gone (output_at instances n)) instances

abbrev pub judged_after : Workunit → ℕ → Workunit
judged_after w n = record w {
  instances = all_judged_late (is_deleted_at w.instances n) n w.instances;
}

abbrev pub decided : Workunit → Option ℕ → Workunit
decided w (Some n) = agreed_on w n
decided w None = left_open w

abbrev pub validated_by : Workunit → Option ℕ → Workunit
validated_by w (Some n) = judged_after w n
validated_by w None = decided w (consensus w)

-- The workunit after the validator has judged what is not refused, if there is still something to look at.
unfoldable pub concluded : Workunit → Workunit
concluded w = if is_to_validate w then validated_by w w.canonical else w

-- What the validator makes of a workunit: empty successes are refused, and the others decide.
unfoldable pub validated : Workunit → Workunit
validated w = concluded (checked w)

-- The grant for an instance, to its host.
abbrev pub grant_of : Workunit → ℕ → Instance → Option Grant
grant_of w n i = option_map (λ host. record { workunit = w.number; n = n; host = host; credit = w.params.credit }) i.host

-- The grant for an instance that becomes VALID by this output; else `None`.
abbrev pub granted_to : Workunit → List ℕ → ℕ → Instance → Option Grant
granted_to w output n i = if is_judged w i && bytes_eq i.output output then grant_of w n i else None

-- One grant for each instance that becomes VALID by this output, in order of their numbers.
abbrev pub grants_by : Workunit → List ℕ → List Grant
grants_by w output = filter_map (λ p. granted_to w output p.0 p.1) (enumerate_from 0 w.instances)

abbrev pub grants_decided : Workunit → Option ℕ → List Grant
grants_decided w (Some n) = grants_by w (output_at w.instances n)
grants_decided w None = []

abbrev pub grants_by_consensus : Workunit → List Grant
grants_by_consensus w = grants_decided w (consensus w)

abbrev pub grants_after : Workunit → ℕ → List Grant
grants_after w n = if is_deleted_at w.instances n then [] else grants_by w (output_at w.instances n)

abbrev pub granted_by : Workunit → Option ℕ → List Grant
granted_by w (Some n) = grants_after w n
granted_by w None = grants_by_consensus w

-- What is granted to the successes that decide.
unfoldable pub credited : Workunit → List Grant
credited w = if is_to_validate w then granted_by w w.canonical else []

-- What the validator grants.
unfoldable pub grants : Workunit → List Grant
grants w = credited (checked w)
