-- The parts of soundness that speak of one workunit.
use Rattle.std.specs.Prelude.{◌≡◌, ◌≢◌, ℕ, ◌<◌, ◌&&◌, true, false, length, All, IfSome, is_none, is_some, slice_get, Some}
use Rattle.std.specs.List.{list_any}
use Rattle.wu_core.specs.declared.workunit.Instance.{Instance}
use Rattle.wu_core.specs.declared.workunit.Workunit.{Workunit}
use Rattle.wu_core.specs.declared.states.Assimilate.TheVariants as assimilate
use Rattle.wu_core.specs.declared.states.FileDelete.TheVariants as file_delete
use Rattle.wu_core.specs.declared.states.Outcome.TheVariants as outcome
use Rattle.wu_core.specs.declared.states.ServerState.TheVariants as server
use Rattle.wu_core.specs.declared.states.ValidateState.TheVariants as validate
use Rattle.wu_rules.specs.Consistent.{IsPossible}
use Rattle.wu_rules.specs.Counts.{is_clear}
use Rattle.wu_rules.specs.Instances.{is_success, is_unsent}

-- If the workunit has a canonical instance, the instance is there.
abbrev pub IsCanonicalPlace : Workunit → Type 0
IsCanonicalPlace w = (n : ℕ) → w.canonical ≡ Some n → n < length w.instances

-- The workunit has a moment exactly if it is assimilated.
pub record IsDoneWithMoment (w : Workunit) : Type 0 where
  pub done : w.assimilate ≡ assimilate.Done → is_some w.done_at ≡ true
  pub done_only : is_some w.done_at ≡ true → w.assimilate ≡ assimilate.Done

-- Only a success has a verdict, except an instance that was refused for an empty output, which is INVALID.
pub record MayHaveVerdict (i : Instance) : Type 0 where
  pub refused : i.outcome ≡ outcome.ValidateError → (i.server_state ≡ server.Over) × (i.validate_state ≡ validate.Invalid)
  pub judged : is_success i ≡ false → i.outcome ≢ outcome.ValidateError → i.validate_state ≡ validate.Init

-- A workunit has class 0 if none of its instances has a host.
abbrev pub IsClasslessUnsent : Workunit → Type 0
IsClasslessUnsent w = list_any (λ i. is_some i.host) w.instances ≡ false → w.class ≡ 0

-- No state of the workunit is one that this project never sets.
pub record IsSettable (w : Workunit) : Type 0 where
  pub instances : All IsPossible w.instances
  pub deletable : w.file_delete ≢ file_delete.Error
  pub sendable : w.error_mask.couldnt_send_result ≡ false
  pub decidable : w.error_mask.no_canonical_result ≡ false
  pub classless : IsClasslessUnsent w

-- The workunit is in one state: undecided, given up or decided. Only an undecided one may have unsent instances, and it
-- is not yet ready for assimilation.
pub record IsInOneState (w : Workunit) : Type 0 where
  pub given_up_or_decided : is_clear w.error_mask ≡ false → is_none w.canonical ≡ true
  pub nothing_unsent : (is_clear w.error_mask && is_none w.canonical) ≡ false
      → list_any is_unsent w.instances ≡ false
  pub undecided : (is_clear w.error_mask && is_none w.canonical) ≡ true → w.assimilate ≡ assimilate.Init

-- A success that was found VALID.
abbrev pub IsValidSuccess : Instance → Type 0
IsValidSuccess i = (is_success i ≡ true) × (i.validate_state ≡ validate.Valid)

-- If the workunit has a canonical instance, that is a success that was found VALID.
abbrev pub IsCanonicalValid : Workunit → Type 0
IsCanonicalValid w = IfSome w.canonical (λ n. IfSome (slice_get w.instances n) IsValidSuccess)
