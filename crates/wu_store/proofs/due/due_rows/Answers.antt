use Rattle.wu_schema.proofs.Words.{arith, ◌∙◌}
use Rattle.wu_schema.proofs.ReadLemmas.{if_ok}
use Rattle.wu_rules.specs.Marks.{selects}
use Rattle.wu_store.specs.Queues.{is_marked}
use Rattle.wu_store.proofs.AskLemmas.{reads_can, reads_found, reads_if}
use Rattle.wu_store.proofs.QueuedLemmas.{first_none, first_same}
use Rattle.wu_store.proofs.due.due_rows.Goals as goal

pub returns-in-Some : goal.returns-in-Some
returns-in-Some g c =
    reads_found (λ marked has. if_ok c.marked_rows.result _ _ (λ rows are. are ∙ first_same c.args.limit (is_marked c.args.pass c.in-Some.by) (selects c.args.pass c.args.now c.args.min_age) marked c.in-Some.ensures.by)) c.marked_rows.ensures

pub returns-in-None : goal.returns-in-None
returns-in-None g c =
    reads_found (λ marked has. if_ok c.marked_rows-in-None.result _ _ (λ rows are. are ∙ first_none c.args.limit (selects c.args.pass c.args.now c.args.min_age) (is_marked c.args.pass 0) marked (c.moment_due.ensures.none c.in-None.is)))
    (reads_can (λ marked has few. omega arith) (reads_if (λ few. omega arith) c.marked_rows-in-None.ensures))
