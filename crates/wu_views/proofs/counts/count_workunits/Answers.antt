use Rattle.wu_schema.proofs.Words.{[], refl, state}
use Rattle.wu_schema.specs.declared.table.ProjectTable.TheVariants as the_table
use Rattle.wu_views.specs.Counting.{workunit_count}
use Rattle.wu_views.proofs.CountQuestions.{asked_count, class_count_question}
use Rattle.wu_views.proofs.CountedAnswers.{counting, workunits_counted, workunits_fit}
use Rattle.wu_views.specs.declared.texts.TheConstants.{COUNT_WORKUNITS}
use Rattle.wu_views.proofs.counts.count_workunits.Goals as goal

pub returns : goal.returns
returns g c =
    let q = c.ask_count.ensures in
    let it = asked_count g.S.Store (class_count_question the_table.WorkunitClass (λ version known. known) (counting COUNT_WORKUNITS.now) workunits_fit [] refl (λ _. refl)) c.args.conn.now c.ask_count.new.conn [] refl workunit_count
    (λ rows h world stood. workunits_counted (state g.S.Store c.args.conn.now) (state g.S.Store c.ask_count.new.conn) world stood.1 rows stood.0 h) _ q.asks q.opens q.shows q.fails q.told in
    record { reads = it }
