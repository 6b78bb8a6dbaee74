-- Cancelling an undecided workunit.
use Rattle.std.specs.Prelude.{true, map}
use Rattle.wu_core.specs.declared.workunit.Workunit.{Workunit}
use Rattle.wu_rules.specs.Instances.{closed}

-- The workunit after a cancel: it is given up, and its unsent instances are closed.
unfoldable pub cancelled : Workunit → Workunit
cancelled w = record w {
  error_mask = record w.error_mask { cancelled = true };
  instances = map closed w.instances;
}
