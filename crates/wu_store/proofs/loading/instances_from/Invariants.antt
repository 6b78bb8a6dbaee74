use Rattle.wu_schema.proofs.Words.{instance_row, map, take, ◌≡◌}
use Rattle.std.specs.Prelude.{All}
use Rattle.wu_core.specs.Storable.{IsStoredInstance}
use Rattle.wu_store.proofs.loading.instances_from.Given as goal

abbrev pub invariant-loop-row : goal.invariant-loop-row
invariant-loop-row l = (map instance_row l.instances.items ≡ take l.row-index l.rows) × All IsStoredInstance l.instances.items
