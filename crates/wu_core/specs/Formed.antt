-- Well-formed instances and workunits: values in their ranges that fit each other.
use Rattle.std.specs.Prelude.{◌≡◌, ℕ, ◌<◌, ◌≤◌, true, false, length, All, Some, is_some}
use Rattle.wu_core.specs.Parameters.{IsParameters}
use Rattle.wu_core.specs.declared.workunit.Instance.{Instance}
use Rattle.wu_core.specs.declared.workunit.Workunit.{Workunit}
use Rattle.wu_core.specs.declared.states.ServerState.TheVariants as server
use Rattle.wu_core.specs.declared.states.Outcome.TheVariants as outcome
use Rattle.wu_core.specs.declared.states.Assimilate.TheVariants as assimilate

-- Host, moment of sending and deadline are there together. An unsent instance does not have them; one that is in
-- progress or succeeded has them.
pub record IsInstance (i : Instance) : Type 0 where
  pub sent_with_host : is_some i.sent_at ≡ is_some i.host
  pub due_with_host : is_some i.deadline ≡ is_some i.host
  pub unsent : i.server_state ≡ server.Unsent → is_some i.host ≡ false
  pub in_progress : i.server_state ≡ server.InProgress → is_some i.host ≡ true
  pub success : i.server_state ≡ server.Over → i.outcome ≡ outcome.Success → is_some i.host ≡ true

-- The parameters are in range, the instances are well formed and no more than allowed, and a canonical one is among
-- them. The workunit has a moment exactly if it is assimilated.
pub record IsWorkunit (w : Workunit) : Type 0 where
  pub parameters : IsParameters w.params
  pub instances : All IsInstance w.instances
  pub within : length w.instances ≤ w.params.max_total_results
  pub canonical : (n : ℕ) → w.canonical ≡ Some n → n < length w.instances
  pub done : w.assimilate ≡ assimilate.Done → is_some w.done_at ≡ true
  pub done_only : is_some w.done_at ≡ true → w.assimilate ≡ assimilate.Done
