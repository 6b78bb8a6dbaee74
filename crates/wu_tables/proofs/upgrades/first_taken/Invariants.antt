use Rattle.std.proofs.Common.{map, take}
use Rattle.wu_schema.specs.Made.{AreFree}
use Rattle.wu_tables.proofs.upgrades.first_taken.Given as goal

abbrev pub invariant-loop-name : goal.invariant-loop-name
invariant-loop-name l = AreFree l.schema (take l.name-index (map (λ name. name.now) l.names))
