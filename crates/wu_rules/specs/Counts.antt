-- Counts over the instances of a workunit, what agrees, and what is undecided.
use Rattle.std.specs.Prelude.{ℕ, ◌+◌, ◌/◌, ◌==◌, nat_le, Bool, ◌&&◌, List, length, filter, bytes_eq, is_none, Option}
use Rattle.std.specs.List.{position_from, list_any}
use Rattle.wu_core.specs.declared.workunit.Instance.{Instance}
use Rattle.wu_core.specs.declared.workunit.Workunit.{Workunit}
use Rattle.wu_core.specs.declared.mask.ErrorMask.{ErrorMask}
use Rattle.wu_core.specs.Mask.{error_mask_code}
use Rattle.wu_rules.specs.Instances.{is_active, is_unsent, is_in_progress, is_error, is_kept, is_viable, is_new}

abbrev pub unsent : Workunit → ℕ
unsent w = length (filter is_unsent w.instances)

abbrev pub in_progress : Workunit → ℕ
in_progress w = length (filter is_in_progress w.instances)

abbrev pub errors : Workunit → ℕ
errors w = length (filter is_error w.instances)

-- The number of successes that are not INVALID.
abbrev pub kept : Workunit → ℕ
kept w = length (filter is_kept w.instances)

-- The successes without a final verdict, in order of their numbers.
abbrev pub viable : Workunit → List Instance
viable w = filter is_viable w.instances

-- Whether there is a success without any verdict.
abbrev pub has_new_success : Workunit → Bool
has_new_success w = list_any is_new w.instances

-- Whether an instance is in progress or a viable success.
abbrev pub has_active : Workunit → Bool
has_active w = list_any is_active w.instances

-- Whether no bit of the mask is set.
abbrev pub is_clear : ErrorMask → Bool
is_clear mask = error_mask_code mask == 0

-- Whether the workunit has neither a canonical result nor an error.
abbrev pub is_undecided : Workunit → Bool
is_undecided w = is_none w.canonical && is_clear w.error_mask

-- The successes whose output equals this one, byte for byte.
abbrev pub agreeing : List ℕ → List Instance → List Instance
agreeing output successes = filter (λ i. bytes_eq i.output output) successes

-- Whether this viable success agrees with at least half of the quorum plus one, itself included.
abbrev pub is_agreed : Workunit → Instance → Bool
is_agreed w i = is_viable i && nat_le (w.params.min_quorum / 2 + 1) (length (agreeing i.output (viable w)))

-- The number of the first viable success with which enough agree; `None` without a consensus.
abbrev pub consensus : Workunit → Option ℕ
consensus w = position_from (is_agreed w) 0 w.instances
