use Rattle.wu_schema.proofs.Words.{[], refl, state}
use Rattle.wu_schema.specs.declared.table.ProjectTable.TheVariants as the_table
use Rattle.wu_views.specs.Counting.{import_count}
use Rattle.wu_views.proofs.CountQuestions.{asked_count, count_question}
use Rattle.wu_views.proofs.CountedAnswers.{counting, imports_counted, imports_fit}
use Rattle.wu_views.specs.declared.texts.TheConstants.{COUNT_IMPORTS}
use Rattle.wu_views.proofs.counts.count_imports.Goals as goal

pub returns : goal.returns
returns g c =
    let q = c.ask_count.ensures in
    let it = asked_count g.S.Store (count_question the_table.Import (λ _. tt) (counting COUNT_IMPORTS.now) imports_fit [] refl (λ _. refl)) c.args.conn.now c.ask_count.new.conn [] refl import_count
    (λ rows h world s. imports_counted (state g.S.Store c.args.conn.now) (state g.S.Store c.ask_count.new.conn) world s rows h) _ q.asks q.opens q.shows q.fails q.told in
    record { reads = it }
