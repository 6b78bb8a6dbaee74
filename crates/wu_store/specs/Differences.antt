-- What two workunits, or two instances, have in common.
use Rattle.std.specs.Prelude.{◌≡◌}
use Rattle.wu_core.specs.declared.workunit.Instance.{Instance}
use Rattle.wu_core.specs.declared.workunit.Workunit.{Workunit}

-- The two have the same job, which no pass changes except for its target and its input.
pub record HasSameJob (a b : Workunit) : Type 0 where
  pub number : a.number ≡ b.number
  pub name : a.name ≡ b.name
  pub params : a.params ≡ b.params
  pub input : a.input ≡ b.input

-- The same was decided on the two.
pub record HasSameDecision (a b : Workunit) : Type 0 where
  pub error_mask : a.error_mask ≡ b.error_mask
  pub canonical : a.canonical ≡ b.canonical
  pub assimilate : a.assimilate ≡ b.assimilate

-- The two are otherwise equally far.
pub record HasSameProgress (a b : Workunit) : Type 0 where
  pub file_delete : a.file_delete ≡ b.file_delete
  pub done_at : a.done_at ≡ b.done_at

-- The two instances have the same states.
pub record HasSameStates (a b : Instance) : Type 0 where
  pub server_state : a.server_state ≡ b.server_state
  pub outcome : a.outcome ≡ b.outcome
  pub validate_state : a.validate_state ≡ b.validate_state
  pub file_delete : a.file_delete ≡ b.file_delete

-- The same is known of the two instances.
pub record HasSameReport (a b : Instance) : Type 0 where
  pub host : a.host ≡ b.host
  pub sent_at : a.sent_at ≡ b.sent_at
  pub deadline : a.deadline ≡ b.deadline
  pub received_at : a.received_at ≡ b.received_at
  pub output : a.output ≡ b.output
