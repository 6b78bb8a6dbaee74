use Rattle.wu_tables.specs.Found.{AreThereBefore}
use Rattle.wu_tables.proofs.project.know_each.Given as goal

abbrev pub invariant-loop-which : goal.invariant-loop-which
invariant-loop-which l = AreThereBefore l.fn.version l.fn.schema l.which-index
