use Rattle.std.proofs.Common.{refl, subst, sym}
use Rattle.wu_tables.specs.Found.{FindsPlace, HasQueueIn}
use Rattle.wu_tables.proofs.FoundLemmas.{named_same}
use Rattle.wu_tables.proofs.queue.queue_tree.Goals as goal

pub returns-in_err-tree : goal.returns-in_err-tree
returns-in_err-tree c =
    let form = c.queue_form.ensures in
    subst (FindsPlace (HasQueueIn c.args.schema.now)) (sym c.from_residual.ensures) (λ tree has. c.in_err-tree.ensures tree (named_same c.args.schema.now (sym form.name) (sym (form.table tree)) has.table))

pub returns-then-has_indexes : goal.returns-then-has_indexes
returns-then-has_indexes c =
    let form = c.queue_form.ensures in
    record { table = named_same c.args.schema.now form.name (form.table c.in_ok-tree.tree) c.in_ok-tree.ensures; indexes = c.if-has_indexes.ensures.0 refl }
