-- Workunits and their instances.
use Rattle.std.specs.Prelude.{ℕ, List, [], ◌++◌, length, take, drop, slice_set, None}
use Rattle.std.specs.Borrow.{Lends, MutBor, Fml, Array}
use Rattle.wu_core.specs.declared.workunit.Instance.{Instance}
use Rattle.wu_core.specs.declared.workunit.Workunit.{Workunit}
use Rattle.wu_core.specs.contracts.workunit.Instance as instance
use Rattle.wu_core.specs.contracts.workunit.Instances as instances
use Rattle.wu_core.specs.declared.states.ServerState.TheVariants as server
use Rattle.wu_core.specs.declared.states.Outcome.TheVariants as outcome
use Rattle.wu_core.specs.declared.states.ValidateState.TheVariants as validate
use Rattle.wu_core.specs.declared.states.FileDelete.TheVariants as file_delete

-- A new instance: unsent, and without a host.
abbrev pub fresh : Instance
fresh = record {
  server_state = server.Unsent;
  outcome = outcome.Init;
  validate_state = validate.Init;
  file_delete = file_delete.Init;
  host = None;
  sent_at = None;
  deadline = None;
  received_at = None;
  output = [];
}

-- The workunit with the instance of this number set.
abbrev pub with_instance_set : Workunit → ℕ → Instance → Workunit
with_instance_set w n instance = record w { instances = slice_set w.instances n instance }

-- The list with its first places as they were written; a list written in place has the same length.
abbrev pub overwritten : List Instance → List Instance → List Instance
overwritten list written = take (length list) (written ++ drop (length written) list)

-- The list becomes what is last written through the result.
abbrev pub LendsAll : MutBor (List Instance) → MutBor (List Instance) → Fml
LendsAll list result = Lends instances.the_row (Array instance.the_row 0) list result (overwritten list.now)
