-- When the states and verdicts of a workunit agree, and what a rule makes of one so that they still agree.
use Rattle.std.specs.Prelude.{◌≡◌, ◌≢◌, ℕ, ◌==◌, Bool, true, false, not, ◌&&◌, if◌then◌else◌, List, filter, length, All, IfSome, is_none, is_some, slice_get, option_map, Option, Some, None}
use Rattle.std.specs.List.{list_any}
use Rattle.std.specs.Option.{option_map_or}
use Rattle.wu_core.specs.declared.workunit.Archived.{Archived}
use Rattle.wu_core.specs.declared.workunit.Grant.{Grant}
use Rattle.wu_core.specs.declared.workunit.HostClass.{HostClass}
use Rattle.wu_core.specs.declared.workunit.Instance.{Instance}
use Rattle.wu_core.specs.declared.workunit.Workunit.{Workunit}
use Rattle.wu_core.specs.declared.states.Assimilate.TheVariants as assimilate
use Rattle.wu_core.specs.declared.states.FileDelete.TheVariants as file_delete
use Rattle.wu_core.specs.declared.states.Outcome.TheVariants as outcome
use Rattle.wu_core.specs.declared.states.ServerState.TheVariants as server
use Rattle.wu_core.specs.declared.states.ValidateState.{ValidateState}
use Rattle.wu_core.specs.declared.states.ValidateState.TheVariants as validate
use Rattle.wu_core.specs.Classes.{class_of}
use Rattle.wu_core.specs.Formed.{IsWorkunit}
use Rattle.wu_rules.specs.Counts.{is_clear}
use Rattle.wu_rules.specs.Instances.{is_active, is_done_assimilate, is_open_verdict, is_success, is_unsent}

-- The instance has no state that this project never sets. Only a success has a verdict, except an instance that was
-- refused for an empty output.
pub record IsPossible (i : Instance) : Type 0 where
  pub active : i.server_state ≢ server.Inactive
  pub sendable : i.outcome ≢ outcome.CouldntSend
  pub refused : i.outcome ≡ outcome.ValidateError → (i.server_state ≡ server.Over) × (i.validate_state ≡ validate.Invalid)
  pub deletable : i.file_delete ≢ file_delete.Error
  pub judged : is_success i ≡ false → i.outcome ≢ outcome.ValidateError → i.validate_state ≡ validate.Init

-- The workunit is in one state: undecided, given up or decided. If no instance was sent to a host, it has no class.
pub record IsConsistent (w : Workunit) : Type 0 where
  pub instances : All IsPossible w.instances
  pub deletable : w.file_delete ≢ file_delete.Error
  pub sendable : w.error_mask.couldnt_send_result ≡ false
  pub decidable : w.error_mask.no_canonical_result ≡ false
  pub given_up_or_decided : is_clear w.error_mask ≡ false → is_none w.canonical ≡ true
  pub nothing_unsent : (is_clear w.error_mask && is_none w.canonical) ≡ false
      → list_any is_unsent w.instances ≡ false
  pub undecided : (is_clear w.error_mask && is_none w.canonical) ≡ true → w.assimilate ≡ assimilate.Init
  pub canonical : IfSome w.canonical (λ n. IfSome (slice_get w.instances n)
      (λ i. (is_success i ≡ true) × (i.validate_state ≡ validate.Valid)))
  pub classless : list_any (λ i. is_some i.host) w.instances ≡ false → w.class ≡ 0

abbrev pub is_valid_verdict : ValidateState → Bool
is_valid_verdict validate.Valid = true
is_valid_verdict _ = false

-- Whether the instance of this number is there and VALID.
abbrev pub is_valid_at : List Instance → ℕ → Bool
is_valid_at instances n = option_map_or (λ i. is_valid_verdict i.validate_state) (slice_get instances n) false

-- The host of the instance of this number, if it has one.
abbrev pub instance_host : List Instance → ℕ → Option (List ℕ)
instance_host instances n = option_map_or (λ i. i.host) (slice_get instances n) None

abbrev pub is_done : Workunit → Bool
is_done w = is_done_assimilate w.assimilate

-- 1 if this is true, else 0.
abbrev pub one_if : Bool → ℕ
one_if b = if b then 1 else 0

-- The grant is for the host of its instance, with the credit of its workunit.
pub record IsGrantFor (w : Workunit) (grant : Grant) : Type 0 where
  pub host : instance_host w.instances grant.n ≡ Some grant.host
  pub credit : grant.credit ≡ w.params.credit

-- An instance gets one grant if it becomes VALID, and else none.
pub record GrantsToTheNew (old new : Workunit) (grants : List Grant) : Type 0 where
  pub workunit : All (λ grant. grant.workunit ≡ old.number) grants
  pub each : (n : ℕ) → length (filter (λ grant. grant.n == n) grants)
      ≡ one_if (is_valid_at new.instances n && not (is_valid_at old.instances n))
  pub own : All (IsGrantFor new) grants

-- The archived row has the canonical number, the error mask and the moment of its workunit.
abbrev pub IsRowOf : Workunit → Archived → Type 0
IsRowOf w row = (row.canonical ≡ w.canonical) × (row.error_mask ≡ w.error_mask) × (w.done_at ≡ Some row.done_at)

-- A workunit gets one archived row if it becomes DONE, and else none. The row has its number, its name and its values.
pub record ArchivesTheNew (old new : Workunit) (archived : List Archived) : Type 0 where
  pub once : length archived ≡ one_if (is_done new && not (is_done old))
  pub own : All (λ row. (row.number ≡ old.number) × (row.name ≡ old.name) × IsRowOf new row) archived

-- Each instance with a final verdict keeps it, at its place.
abbrev pub KeepsVerdicts : Workunit → Workunit → Type 0
KeepsVerdicts old new =
    (n : ℕ) (i : Instance) → slice_get old.instances n ≡ Some i → is_open_verdict i.validate_state ≡ false
    → option_map (λ j. j.validate_state) (slice_get new.instances n) ≡ Some i.validate_state

-- No host has two instances of the workunit.
abbrev pub HostsApart : Workunit → Type 0
HostsApart w =
    (m n : ℕ) (host : List ℕ) → instance_host w.instances m ≡ Some host → instance_host w.instances n ≡ Some host
    → m ≡ n

-- An instance that was sent stays with its host.
abbrev pub KeepsHosts : Workunit → Workunit → Type 0
KeepsHosts old new =
    (n : ℕ) (host : List ℕ) → instance_host old.instances n ≡ Some host
    → instance_host new.instances n ≡ Some host

-- Each active instance is at a host of the workunit's class, given the classes of hosts.
abbrev pub IsOneClass : List HostClass → Workunit → Type 0
IsOneClass classes w =
    All (λ i. is_active i ≡ true → IfSome i.host (λ host. class_of classes host ≡ w.class)) w.instances

-- What a rule makes of a consistent workunit, with its grants and archived rows. What was decided stays: VALID
-- instances with their hosts, final verdicts, the canonical result, given up, and DONE with its mask and moment. What
-- was sent stays with its host, and no host gets a second instance.
pub record Rewrites (old new : Workunit) (grants : List Grant) (archived : List Archived) : Type 0 where
  pub number : new.number ≡ old.number
  pub name : new.name ≡ old.name
  pub credit : new.params.credit ≡ old.params.credit
  pub formed : IsWorkunit new
  pub consistent : IsConsistent new
  pub valid : (n : ℕ) → is_valid_at old.instances n ≡ true
      → (is_valid_at new.instances n ≡ true) × (instance_host new.instances n ≡ instance_host old.instances n)
  pub canonical : (n : ℕ) → old.canonical ≡ Some n → new.canonical ≡ Some n
  pub verdicts : KeepsVerdicts old new
  pub hosts : KeepsHosts old new
  pub apart : HostsApart old → HostsApart new
  pub given_up : is_clear old.error_mask ≡ false → is_clear new.error_mask ≡ false
  pub done : is_done old ≡ true → is_done new ≡ true
  pub stays : is_done old ≡ true → (new.error_mask ≡ old.error_mask) × (new.done_at ≡ old.done_at)
  pub granted : GrantsToTheNew old new grants
  pub archives : ArchivesTheNew old new archived
