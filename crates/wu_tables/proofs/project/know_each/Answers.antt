use Rattle.std.proofs.Common.{◌≡◌, arith, subst}
use Rattle.wu_tables.specs.Found.{AreThereBefore}
use Rattle.wu_tables.proofs.OrderLemmas.{first_at, next_there, none_before}
use Rattle.wu_tables.proofs.project.know_each.Goals as goal

pub loop-which-init : goal.loop-which-init
loop-which-init c = none_before c.args.version c.args.schema.now

pub loop-which-preserved : goal.loop-which-preserved
loop-which-preserved c =
    next_there c.args.version c.args.schema.now c.loop-which.which-index c.loop-which-test.true c.in_ok-project_tree.field-0 c.in_ok-project_tree.ensures.found c.loop-which.invariant

pub returns-in_err-project_tree-clause-told : goal.returns-in_err-project_tree-clause-told
returns-in_err-project_tree-clause-told c =
    let it = c.in_err-project_tree in
    first_at c.args.version c.args.schema.now c.from_residual.result it.field-0.0 c.loop-which.which-index c.loop-which-test.true c.loop-which.invariant c.from_residual.ensures.1 it.ensures.told it.ensures.table

pub returns-clause-there : goal.returns-clause-there
returns-clause-there c =
    let all : c.loop-which.which-index ≡ 9 = omega (arith, c.loop-which-test.false, c.loop-which.auto.which-index-end) in
    subst (AreThereBefore c.args.version c.args.schema.now) all c.loop-which.invariant
