use Rattle.wu_schema.proofs.Words.{HasCleanDisk, List, Refines, World, [], state, take, ℕ, ◌≡◌}
use Rattle.wu_core.specs.declared.marks.Marks.{Marks}
use Rattle.wu_schema.specs.Classes.{HasClassTables, unbound_in}
use Rattle.wu_schema.specs.Queue.{HasQueue}
use Rattle.wu_store.specs.StandsFor.{KnowsClasses, marked as marks_in}
use Rattle.wu_schema.specs.Made.{workunit_class_table}
use Rattle.wu_schema.specs.Others.{Spares}
use Rattle.wu_store.proofs.ChangeLemmas.{Works}
use Rattle.wu_store.proofs.classes.fill_classes.Given as goal

abbrev pub invariant-loop-row : goal.invariant-loop-row
invariant-loop-row g l =
    Works g.S.Store l.initial.tx l.tx
    × (HasCleanDisk (state g.S.Store l.tx.conn.now) → Spares workunit_class_table (state g.S.Store l.initial.tx.conn.now).now (state g.S.Store l.tx.conn.now).now
    × ((world : World) → ¬ KnowsClasses world → Refines (state g.S.Store l.initial.tx.conn.now).now world → l.rows ≡ marks_in world → HasClassTables (state g.S.Store l.initial.tx.conn.now).now []
    → Refines (state g.S.Store l.tx.conn.now).now world × HasClassTables (state g.S.Store l.tx.conn.now).now (take l.row-index (unbound_in world))
    × ((marked : List (ℕ × Marks)) → HasQueue (state g.S.Store l.initial.tx.conn.now).now marked → HasQueue (state g.S.Store l.tx.conn.now).now marked)))
