-- What the rules mean, in BOINC's words.
use Rattle.std.specs.Prelude.{◌≡◌, ◌≢◌, ◌↔◌, ◌⊎◌, ℕ, ◌+◌, ◌/◌, ◌<◌, ◌≤◌, length, true, false, if◌then◌else◌, [], List, map, Option, Some, None, option_map, slice_get, is_some, IsSomeAnd, IfSome, bytes_eq}
use Rattle.std.specs.List.{enumerate_from, All, AllPairs}
use Rattle.wu_core.specs.declared.workunit.Workunit.{Workunit}
use Rattle.wu_core.specs.Formed.{IsWorkunit}
use Rattle.wu_core.specs.declared.workunit.Grant.{Grant}
use Rattle.wu_core.specs.declared.workunit.Instance.{Instance}
use Rattle.wu_core.specs.declared.states.Outcome.TheVariants as outcome
use Rattle.wu_core.specs.declared.states.ServerState.TheVariants as server
use Rattle.wu_core.specs.declared.states.Status.{Status}
use Rattle.wu_core.specs.declared.states.ValidateState.{ValidateState}
use Rattle.wu_core.specs.declared.states.ValidateState.TheVariants as validate
use Rattle.wu_rules.specs.declared.verdicts.ReportVerdict.TheVariants as report
use Rattle.wu_rules.specs.Instances.{is_new, is_unsent, is_viable, is_open_verdict, is_ready_assimilate, is_ready_file}
use Rattle.wu_rules.specs.Assimilation.{assimilated, archived, emptied, is_to_delete, is_purgeable}
use Rattle.wu_rules.specs.Cancelling.{cancelled}
use Rattle.wu_rules.specs.Due.{changes}
use Rattle.wu_rules.specs.Marks.{marks, selects}
use Rattle.wu_rules.specs.declared.due.Pass.{Pass}
use Rattle.wu_rules.specs.Counts.{viable, agreeing, is_agreed, is_clear, is_undecided, has_new_success, consensus}
use Rattle.wu_rules.specs.Reporting.{report_verdict_in, reported_in}
use Rattle.wu_rules.specs.Sending.{sent_in}
use Rattle.wu_rules.specs.Transition.{transitioned}
use Rattle.wu_rules.specs.Validation.{checked, grants, is_deleted_at, is_judged, is_to_validate, output_at, validated, verdict}
use Rattle.wu_rules.specs.Waking.{wake}
use Rattle.wu_rules.specs.Consistent.{HostsApart}

-- A second transition at the same moment changes nothing.
abbrev pub TransitionsOnce : Type 0
TransitionsOnce = (w : Workunit) (now : ℕ) → transitioned (transitioned w now) now ≡ transitioned w now

-- After a transition no instance is in progress past its deadline.
abbrev pub TimesOutWhatIsLate : Type 0
TimesOutWhatIsLate =
    (w : Workunit) (now n : ℕ) (i : Instance) → slice_get (transitioned w now).instances n ≡ Some i
    → i.server_state ≡ server.InProgress → IfSome i.deadline (λ deadline. now ≤ deadline)

-- A workunit wakes at a moment, and not after now, exactly if a transition now changes it.
abbrev pub WakesInTime : Type 0
WakesInTime = (w : Workunit) (now : ℕ) → IsSomeAnd (wake w) (λ moment. moment ≤ now) ↔ (transitioned w now ≢ w)

-- The validator looks at a workunit exactly if it changes it.
abbrev pub LooksWhereItChanges : Type 0
LooksWhereItChanges = (w : Workunit) → (is_to_validate w ≡ true) ↔ (validated w ≢ w)

-- A final verdict stays.
abbrev pub KeepsFinalVerdicts : Type 0
KeepsFinalVerdicts =
    (w : Workunit) (n : ℕ) (i : Instance) → slice_get w.instances n ≡ Some i → is_open_verdict i.validate_state ≡ false
    → option_map (λ j. j.validate_state) (slice_get (validated w).instances n) ≡ Some i.validate_state

-- The assimilator changes exactly what is ready for it.
abbrev pub AssimilatesWhatIsReady : Type 0
AssimilatesWhatIsReady = (w : Workunit) (now : ℕ) → (is_ready_assimilate w.assimilate ≡ true) ↔ (assimilated w now ≢ w)

-- The output that is archived of a workunit that is ready; else `None`.
abbrev pub archived_output : Workunit → ℕ → Option (List ℕ)
archived_output w now = option_map (λ row. row.output) (archived w now)

-- What is archived is the canonical output as it was before; without a canonical result no byte is archived.
pub record ArchivesOutput (w : Workunit) (now : ℕ) : Type 0 where
  pub canonical : (n : ℕ) (i : Instance) → w.canonical ≡ Some n → slice_get w.instances n ≡ Some i
      → archived_output w now ≡ (if is_ready_assimilate w.assimilate then Some i.output else None)
  pub nothing : w.canonical ≡ None
      → archived_output w now ≡ (if is_ready_assimilate w.assimilate then Some [] else None)

abbrev pub ArchivesWhatWasRead : Type 0
ArchivesWhatWasRead = (w : Workunit) (now : ℕ) → ArchivesOutput w now

-- The file deleter is needed exactly if it changes something.
abbrev pub DeletesWhereItChanges : Type 0
DeletesWhereItChanges = (w : Workunit) → (is_to_delete w ≡ true) ↔ (emptied w ≢ w)

-- After file deletion no byte of an input or output that was ready is left, and each other output stays.
pub record HoldsNothingReady (w : Workunit) : Type 0 where
  pub nothing_ready : is_to_delete (emptied w) ≡ false
  pub input : is_ready_file w.file_delete ≡ true → (emptied w).input ≡ []
  pub outputs : (n : ℕ) (i : Instance) → slice_get w.instances n ≡ Some i → is_ready_file i.file_delete ≡ true → option_map (λ j. j.output) (slice_get (emptied w).instances n) ≡ Some []
  pub others : (n : ℕ) (i : Instance) → slice_get w.instances n ≡ Some i → is_ready_file i.file_delete ≡ false → slice_get (emptied w).instances n ≡ Some i

-- At each moment and least age, a pass selects by the marks exactly what it then changes.
abbrev pub SelectsByMarks : Type 0
SelectsByMarks = (pass : Pass) (now min_age : ℕ) (w : Workunit) → selects pass now min_age (marks w) ≡ changes pass now min_age w

-- The assimilator and the file deleter do not change a workunit that may be purged.
abbrev pub PurgesWhatIsThrough : Type 0
PurgesWhatIsThrough =
    (w : Workunit) (now min_age : ℕ) → is_purgeable w now min_age ≡ true
    → ((moment : ℕ) → assimilated w moment ≡ w) × (emptied w ≡ w)

-- A workunit that may be purged at a moment may be purged at each later one.
abbrev pub StaysPurgeable : Type 0
StaysPurgeable =
    (w : Workunit) (now later min_age : ℕ) → now ≤ later → is_purgeable w now min_age ≡ true
    → is_purgeable w later min_age ≡ true

-- The chosen result is the first viable success that agrees, byte for byte, with at least half of the quorum plus one,
-- itself included.
pub record IsChosen (w : Workunit) (n : ℕ) : Type 0 where
  pub chosen : Instance
  pub stands : slice_get w.instances n ≡ Some chosen
  pub is_viable : is_viable chosen ≡ true
  pub enough : w.params.min_quorum / 2 + 1 ≤ length (agreeing chosen.output (viable w))
  pub first : (k : ℕ) (other : Instance) → k < n → slice_get w.instances k ≡ Some other → is_agreed w other ≡ false

abbrev pub ChoosesByAgreement : Type 0
ChoosesByAgreement = (w : Workunit) (n : ℕ) → (consensus w ≡ Some n) ↔ IsChosen w n

-- Only the validator chooses a canonical result, if enough successes without empty outputs agree. No rule removes or
-- replaces one.
pub record ChoosesByQuorum (w : Workunit) : Type 0 where
  pub chosen : (n : ℕ) → w.canonical ≡ None → (validated w).canonical ≡ Some n → IsChosen (checked w) n
  pub kept : (n : ℕ) → w.canonical ≡ Some n → (validated w).canonical ≡ Some n
  pub transitioned : (now : ℕ) → (transitioned w now).canonical ≡ w.canonical
  pub assimilated : (now : ℕ) → (assimilated w now).canonical ≡ w.canonical
  pub emptied : (emptied w).canonical ≡ w.canonical
  pub cancelled : (cancelled w).canonical ≡ w.canonical
  pub sent : (n : ℕ) (host : List ℕ) (class : ℕ) (moment : ℕ) → (sent_in w n host class moment).canonical ≡ w.canonical
  pub reported : (n moment : ℕ) (status : Status) (output : List ℕ) → (reported_in w n moment status output).canonical ≡ w.canonical

abbrev pub ChoosesOnlyByQuorum : Type 0
ChoosesOnlyByQuorum = (w : Workunit) → ChoosesByQuorum w

-- The verdict of the instance of this number; `None` without it.
abbrev pub verdict_at : Workunit → ℕ → Option ValidateState
verdict_at w n = option_map (λ i. i.validate_state) (slice_get w.instances n)

-- ---- empty outputs

-- The instance is refused: an error of validation, and INVALID. All else of it stays.
abbrev pub IsValidateError : Instance → Option Instance → Type 0
IsValidateError i new = new ≡ Some (record i { outcome = outcome.ValidateError; validate_state = validate.Invalid })

-- If the validator looks at a workunit, it refuses each judged success with an empty output, before the decision and
-- after it. No empty output is chosen, made VALID or granted.
pub record RefusesEmpty (w : Workunit) : Type 0 where
  pub refused : (n : ℕ) (i : Instance) → is_to_validate w ≡ true → slice_get w.instances n ≡ Some i
      → is_judged w i ≡ true → i.output ≡ [] → IsValidateError i (slice_get (validated w).instances n)
  pub not_chosen : (n : ℕ) (i : Instance) → w.canonical ≡ None → (validated w).canonical ≡ Some n
      → slice_get w.instances n ≡ Some i → i.output ≢ []
  pub not_valid : (n : ℕ) (i : Instance) → slice_get w.instances n ≡ Some i → is_open_verdict i.validate_state ≡ true
      → verdict_at (validated w) n ≡ Some validate.Valid → i.output ≢ []
  pub not_granted : All (λ grant. (i : Instance) → slice_get w.instances grant.n ≡ Some i → i.output ≢ []) (grants w)
  -- No other success is refused.
  pub others : (n : ℕ) (i : Instance) → slice_get w.instances n ≡ Some i → i.output ≢ []
      → IfSome (slice_get (validated w).instances n) (λ j. j.outcome ≡ outcome.ValidateError → i.outcome ≡ outcome.ValidateError)
  -- If what is left is not enough, it stays as it is.
  pub rest : is_to_validate (checked w) ≡ false → validated w ≡ checked w

abbrev pub RefusesWhatIsEmpty : Type 0
RefusesWhatIsEmpty = (w : Workunit) → RefusesEmpty w

-- ---- what the others decide

-- Of the successes that are left without empty outputs, if they are enough, the validator decides by the consensus. At
-- the decision a viable success is VALID if its output is the chosen one, byte for byte, and else INVALID. Later a new
-- success is judged likewise, or is TOO_LATE once the canonical output is deleted. Without a consensus each viable
-- success is INCONCLUSIVE.
pub record DecidesBy (w left : Workunit) : Type 0 where
  pub chosen : is_to_validate left ≡ true → w.canonical ≡ None → (validated w).canonical ≡ consensus left
  pub judged : (c n : ℕ) (i : Instance) → is_to_validate left ≡ true → w.canonical ≡ None → consensus left ≡ Some c
      → slice_get left.instances n ≡ Some i → is_viable i ≡ true
      → verdict_at (validated w) n ≡ Some (verdict (bytes_eq i.output (output_at left.instances c)))
  pub judged_late : (c n : ℕ) (i : Instance) → is_to_validate left ≡ true → w.canonical ≡ Some c
      → is_deleted_at left.instances c ≡ false → slice_get left.instances n ≡ Some i → is_new i ≡ true
      → verdict_at (validated w) n ≡ Some (verdict (bytes_eq i.output (output_at left.instances c)))
  pub too_late : (c n : ℕ) (i : Instance) → is_to_validate left ≡ true → w.canonical ≡ Some c
      → is_deleted_at left.instances c ≡ true → slice_get left.instances n ≡ Some i → is_new i ≡ true
      → verdict_at (validated w) n ≡ Some validate.TooLate
  pub doubted : (n : ℕ) (i : Instance) → is_to_validate left ≡ true → w.canonical ≡ None → consensus left ≡ None
      → slice_get left.instances n ≡ Some i → is_viable i ≡ true
      → verdict_at (validated w) n ≡ Some validate.Inconclusive

abbrev pub DecidesByConsensus : Type 0
DecidesByConsensus = (w : Workunit) → DecidesBy w (checked w)

-- An undecided workunit gets its canonical result as soon as it has a new success, enough viable ones for its quorum,
-- and a consensus. Empty outputs do not count.
abbrev pub DecidesWithItsQuorum : Type 0
DecidesWithItsQuorum =
    (w : Workunit) (c : ℕ) → is_undecided w ≡ true → has_new_success (checked w) ≡ true
    → w.params.min_quorum ≤ length (viable (checked w)) → consensus (checked w) ≡ Some c
    → (validated w).canonical ≡ Some c

-- After the decision, and without an error, the validator leaves no success without a verdict.
abbrev pub JudgesWhatComesLate : Type 0
JudgesWhatComesLate =
    (w : Workunit) (c : ℕ) → w.canonical ≡ Some c → is_clear w.error_mask ≡ true
    → (n : ℕ) (i : Instance) → slice_get (validated w).instances n ≡ Some i → is_new i ≡ false

-- The same workunit with other hosts.
abbrev pub rehosted : (ℕ → Instance → Option (List ℕ)) → Workunit → Workunit
rehosted hosts w = record w { instances = map (λ p. record p.1 { host = hosts p.0 p.1 }) (enumerate_from 0 w.instances) }

-- The consensus does not depend on hosts.
abbrev pub ChoosesWithoutHosts : Type 0
ChoosesWithoutHosts = (hosts : ℕ → Instance → Option (List ℕ)) (w : Workunit) → consensus (rehosted hosts w) ≡ consensus w

-- Each of these instances has a host, and no two have the same host.
pub record HaveDifferentHosts (instances : List Instance) : Type 0 where
  pub hosted : All (λ i. is_some i.host ≡ true) instances
  pub apart : AllPairs (λ one other. one.host ≢ other.host) instances

-- If no host has two instances, viable successes with the same output are at different hosts. This holds of those that
-- agree with the chosen result.
abbrev pub AgreeFromDifferentHosts : Type 0
AgreeFromDifferentHosts =
    (w : Workunit) (output : List ℕ) → IsWorkunit w → HostsApart w
    → HaveDifferentHosts (agreeing output (viable w))

-- The grant is for an instance that had no final verdict and is now VALID, for its host, with the credit of its
-- workunit.
pub record IsRightGrantIn (old new : Workunit) (g : Grant) : Type 0 where
  pub instance : Instance
  pub stands : slice_get old.instances g.n ≡ Some instance
  pub open_before : is_open_verdict instance.validate_state ≡ true
  pub valid_after : option_map (λ j. j.validate_state) (slice_get new.instances g.n) ≡ Some validate.Valid
  pub host : instance.host ≡ Some g.host
  pub workunit : g.workunit ≡ old.number
  pub credit : g.credit ≡ old.params.credit

-- Each grant is for an instance that becomes VALID and had no final verdict before.
abbrev pub GrantsToTheValid : Type 0
GrantsToTheValid = (w : Workunit) → All (IsRightGrantIn w (validated w)) (grants w)

-- No instance gets two grants.
abbrev pub GrantsOnce : Type 0
GrantsOnce = (w : Workunit) → AllPairs (λ earlier later. earlier.n < later.n) (grants w)

-- Each rule makes a well-formed workunit of this one.
pub record KeepsFormed (w : Workunit) : Type 0 where
  pub transitioned : (now : ℕ) → IsWorkunit (transitioned w now)
  pub validated : IsWorkunit (validated w)
  pub assimilated : (now : ℕ) → IsWorkunit (assimilated w now)
  pub emptied : IsWorkunit (emptied w)
  pub cancelled : IsWorkunit (cancelled w)
  pub sent : (n : ℕ) (host : List ℕ) (class : ℕ) (moment : ℕ) → IsWorkunit (sent_in w n host class moment)
  pub reported : (n : ℕ) (host : List ℕ) (moment : ℕ) (status : Status) (output : List ℕ)
      → report_verdict_in w n host moment ≡ report.Applied → IsWorkunit (reported_in w n moment status output)

abbrev pub KeepsWorkunitsFormed : Type 0
KeepsWorkunitsFormed = (w : Workunit) → IsWorkunit w → KeepsFormed w

-- A cancelled workunit has that bit in its mask, its unsent instances are closed, and all else stays.
pub record IsCancelled (w new : Workunit) : Type 0 where
  pub given_up : new.error_mask ≡ record w.error_mask { cancelled = true }
  pub closed : (n : ℕ) (i : Instance) → slice_get w.instances n ≡ Some i → is_unsent i ≡ true
      → slice_get new.instances n ≡ Some (record i { server_state = server.Over; outcome = outcome.DidntNeed })
  pub others : (n : ℕ) (i : Instance) → slice_get w.instances n ≡ Some i → is_unsent i ≡ false
      → slice_get new.instances n ≡ Some i
  pub none_more : length new.instances ≡ length w.instances
  pub rest : new ≡ record w { error_mask = new.error_mask; instances = new.instances }

abbrev pub CancelsWhatIsUnsent : Type 0
CancelsWhatIsUnsent = (w : Workunit) → IsCancelled w (cancelled w)

-- The validator looks at the workunit, no result is chosen yet, and there is no consensus.
pub record IsUnagreed (w : Workunit) : Type 0 where
  pub looked_at : is_to_validate w ≡ true
  pub undecided : w.canonical ≡ None
  pub no_consensus : consensus w ≡ None

-- Without a consensus among what is left without empty outputs, a workunit with more viable successes than it allows is
-- given up. Any other target that they have reached is raised to one more than they are. No other parameter and no
-- other bit changes, and none if there is a canonical result.
pub record AsksForMore (w left : Workunit) : Type 0 where
  pub given_up : IsUnagreed left
      → ((validated w).error_mask.too_many_success_results ≡ true) ↔ (w.params.max_success_results < length (viable left))
  pub raised : IsUnagreed left → length (viable left) ≤ w.params.max_success_results → w.params.target_nresults ≤ length (viable left)
      → (validated w).params.target_nresults ≡ length (viable left) + 1
  pub not_raised : IsUnagreed left → (w.params.max_success_results < length (viable left)) ⊎ (length (viable left) < w.params.target_nresults)
      → (validated w).params.target_nresults ≡ w.params.target_nresults
  pub other_params : (validated w).params ≡ record w.params { target_nresults = (validated w).params.target_nresults }
  pub other_bits : (validated w).error_mask
      ≡ record w.error_mask { too_many_success_results = (validated w).error_mask.too_many_success_results }
  pub decided : (n : ℕ) → (validated w).canonical ≡ Some n
      → ((validated w).params ≡ w.params) × ((validated w).error_mask ≡ w.error_mask)

abbrev pub AsksForMoreOrGivesUp : Type 0
AsksForMoreOrGivesUp = (w : Workunit) → AsksForMore w (checked w)
