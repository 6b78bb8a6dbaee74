-- What a transition makes of a workunit, in BOINC's words.
use Rattle.std.specs.Prelude.{Bool, ◌≡◌, ◌≢◌, ◌↔◌, ◌⊎◌, ℕ, ◌+◌, ◌<◌, ◌≤◌, length, true, false, not, All, Some, slice_get, IsSomeAnd}
use Rattle.wu_core.specs.declared.workunit.Instance.{Instance}
use Rattle.wu_core.specs.declared.workunit.Workunit.{Workunit}
use Rattle.wu_core.specs.declared.states.Assimilate.TheVariants as assimilate
use Rattle.wu_core.specs.declared.states.FileDelete.{FileDelete}
use Rattle.wu_core.specs.declared.states.FileDelete.TheVariants as file_delete
use Rattle.wu_core.specs.declared.states.Outcome.TheVariants as outcome
use Rattle.wu_core.specs.declared.states.ServerState.TheVariants as server
use Rattle.wu_core.specs.declared.states.ValidateState.TheVariants as validate
use Rattle.wu_core.specs.Workunit.{fresh}
use Rattle.wu_rules.specs.Instances.{is_over, is_overdue, is_unsent, is_viable}
use Rattle.wu_rules.specs.Counts.{errors, in_progress, is_clear, is_undecided, kept, unsent}
use Rattle.wu_rules.specs.Transition.{timed, transitioned}
use Rattle.wu_rules.specs.Validation.{is_to_validate}

-- ---- new instances

-- The number of results that a workunit has or may still get: successes that are not INVALID, unsent instances and
-- those in progress.
abbrev pub hoped_for : Workunit → ℕ
hoped_for w = unsent w + in_progress w + kept w

-- An undecided workunit gets as many new instances as bring the results that it may get up to its target, within its
-- total. A workunit that is decided or given up by then gets none.
pub record BringsUp (old new : Workunit) : Type 0 where
  pub none_gone : length old.instances ≤ length new.instances
  pub enough : is_undecided new ≡ true → length new.instances < new.params.max_total_results
      → new.params.target_nresults ≤ hoped_for new
  pub wanted : length old.instances < length new.instances
      → hoped_for new ≤ new.params.target_nresults
  pub allowed : length old.instances < length new.instances
      → length new.instances ≤ new.params.max_total_results
  pub none_made : is_undecided new ≡ false → length new.instances ≡ length old.instances
  pub made : (n : ℕ) (i : Instance) → length old.instances ≤ n → slice_get new.instances n ≡ Some i
      → i ≡ fresh
  pub params : new.params ≡ old.params

abbrev pub BringsUpToTheTarget : Type 0
BringsUpToTheTarget = (w : Workunit) (now : ℕ) → BringsUp w (transitioned w now)

-- ---- what is given up

-- The workunit gets no further. Its errors are allowed and it needs more results, but it has all the instances that it
-- may have. None of them is unsent or in progress, and the validator has nothing to look at.
pub record GetsNoFurther (w : Workunit) : Type 0 where
  pub borne : errors w ≤ w.params.max_error_results
  pub wanting : kept w < w.params.target_nresults
  pub full : w.params.max_total_results ≤ length w.instances
  pub nothing_unsent : unsent w ≡ 0
  pub nothing_out : in_progress w ≡ 0
  pub nothing_to_validate : is_to_validate w ≡ false

-- With late instances over, an undecided workunit is given up exactly if it has more errors than it allows, or gets no
-- further. No other bit of the mask changes, and none of a workunit that is not undecided.
pub record GivesUp (w : Workunit) (now : ℕ) : Type 0 where
  pub too_many_errors : is_undecided w ≡ true
      → ((transitioned w now).error_mask.too_many_error_results ≡ true)
      ↔ (w.params.max_error_results < errors (timed w now))
  pub too_many_total : is_undecided w ≡ true
      → ((transitioned w now).error_mask.too_many_total_results ≡ true)
      ↔ GetsNoFurther (timed w now)
  pub others : (transitioned w now).error_mask ≡ record w.error_mask {
    too_many_error_results = (transitioned w now).error_mask.too_many_error_results;
    too_many_total_results = (transitioned w now).error_mask.too_many_total_results;
  }
  pub no_other : is_undecided w ≡ false → (transitioned w now).error_mask ≡ w.error_mask

abbrev pub GivesUpWhatGetsNoFurther : Type 0
GivesUpWhatGetsNoFurther = (w : Workunit) (now : ℕ) → GivesUp w now

-- ---- each instance

-- What becomes of an instance. In progress past its deadline, it is over without a reply. If the workunit is given up,
-- an unsent one is over because it was not needed, and a viable success is not checked. All else stays.
pub record Becomes (now : ℕ) (is_given_up : Bool) (i j : Instance) : Type 0 where
  pub late : is_overdue now i ≡ true
      → (j.server_state ≡ server.Over) × (j.outcome ≡ outcome.NoReply)
  pub closed : is_unsent i ≡ true → is_given_up ≡ true
      → (j.server_state ≡ server.Over) × (j.outcome ≡ outcome.DidntNeed)
  pub no_other_end : is_overdue now i ≡ false → (is_unsent i ≡ false) ⊎ (is_given_up ≡ false)
      → (j.server_state ≡ i.server_state) × (j.outcome ≡ i.outcome)
  pub unchecked : is_viable i ≡ true → is_given_up ≡ true → j.validate_state ≡ validate.NoCheck
  pub no_other_verdict : (is_viable i ≡ false) ⊎ (is_given_up ≡ false)
      → j.validate_state ≡ i.validate_state
  pub sending : (j.host ≡ i.host) × (j.sent_at ≡ i.sent_at) × (j.deadline ≡ i.deadline)
  pub report : (j.received_at ≡ i.received_at) × (j.output ≡ i.output)

abbrev pub EndsWhatIsNotAwaited : Type 0
EndsWhatIsNotAwaited =
    (w : Workunit) (now n : ℕ) (i : Instance) → slice_get w.instances n ≡ Some i
    → IsSomeAnd (slice_get (transitioned w now).instances n)
    (Becomes now (not (is_clear (transitioned w now).error_mask)) i)

-- After a transition of a workunit that is given up, no instance is unsent, each success has a final verdict, and it is
-- ready for assimilation or past it.
pub record IsThrough (new : Workunit) : Type 0 where
  pub nothing_unsent : (n : ℕ) (i : Instance) → slice_get new.instances n ≡ Some i
      → is_unsent i ≡ false
  pub nothing_viable : (n : ℕ) (i : Instance) → slice_get new.instances n ≡ Some i
      → is_viable i ≡ false
  pub to_assimilate : new.assimilate ≢ assimilate.Init

abbrev pub LeavesNothingOpen : Type 0
LeavesNothingOpen =
    (w : Workunit) (now : ℕ) → is_clear (transitioned w now).error_mask ≡ false
    → IsThrough (transitioned w now)

-- ---- what becomes ready for deletion

-- The file was not ready for deletion before, and now is.
abbrev pub IsNamed : FileDelete → FileDelete → Type 0
IsNamed old new = (old ≡ file_delete.Init) × (new ≡ file_delete.Ready)

-- The instance is over, and no viable success.
abbrev pub IsFinished : Instance → Type 0
IsFinished i = (is_over i ≡ true) × (is_viable i ≡ false)

-- When an output may be deleted: its workunit is assimilated and it is finished; for the canonical output all instances
-- are finished.
pub record MayGo (old new : Workunit) (n : ℕ) (i j : Instance) : Type 0 where
  pub assimilated : old.assimilate ≡ assimilate.Done
  pub not_yet : i.file_delete ≡ file_delete.Init
  pub finished : IsFinished j
  pub after_all : old.canonical ≡ Some n → All IsFinished new.instances

-- The input becomes ready for deletion exactly if the workunit is assimilated and all instances are over, and an output
-- exactly if it may be deleted. Each other file stays as it was.
pub record NamesFiles (old new : Workunit) : Type 0 where
  pub input : IsNamed old.file_delete new.file_delete
      ↔ ((old.assimilate ≡ assimilate.Done) × (old.file_delete ≡ file_delete.Init)
      × All (λ j. is_over j ≡ true) new.instances)
  pub no_other_input : (new.file_delete ≡ old.file_delete) ⊎ IsNamed old.file_delete new.file_delete
  pub output : (n : ℕ) (i j : Instance) → slice_get old.instances n ≡ Some i
      → slice_get new.instances n ≡ Some j
      → IsNamed i.file_delete j.file_delete ↔ MayGo old new n i j
  pub no_other_output : (n : ℕ) (i j : Instance) → slice_get old.instances n ≡ Some i
      → slice_get new.instances n ≡ Some j
      → (j.file_delete ≡ i.file_delete) ⊎ IsNamed i.file_delete j.file_delete

abbrev pub NamesWhatMayGo : Type 0
NamesWhatMayGo = (w : Workunit) (now : ℕ) → NamesFiles w (transitioned w now)
