use Rattle.wu_schema.proofs.Words.{[], ap, arith, bound_value, number, pos, true, ◌∙◌, ◌∷◌, ◌≡◌}
use Rattle.wu_schema.proofs.InsertEffect.{also, no_more}
use Rattle.wu_store.proofs.ChangeLemmas.{sent_number}
use Rattle.wu_store.proofs.QueueAnswers.{flags_given, moments_given, pass_asks}
use Rattle.wu_store.proofs.QueueLemmas.{bound_flag}
use Rattle.wu_store.proofs.AskLemmas.{reads_handed, reads_if, reads_unkeyed, reads_can}
use Rattle.wu_store.proofs.statements.marked_rows.Goals as goal

pub returns-in_err-limit : goal.returns-in_err-limit
returns-in_err-limit g c =
    let key = c.in_err-limit.ensures in
    reads_handed g.S.Store _ _ _ _ c.from_residual.ensures.1 (reads_unkeyed g.S.Store _ c.args.limit _ key.refused key.beyond) (λ other told marked. tt) (λ marked has few. few)

pub returns-in-Transition : goal.returns-in-Transition
returns-in-Transition g c =
    let q = c.query.ensures in
    let first = c.seconds.ensures in
    let by = c.seconds-in-Transition.ensures in
    let limit = c.in_ok-limit.ensures in
    let sent : _ ≡ number 0 ∷ number c.args.by ∷ number c.args.limit ∷ [] = also (sent_number 0 c.params-to_sql.ensures (first.value ∙ ap pos c.first.ensures) (omega arith)) (also (sent_number c.args.by c.params-to_sql-in-Transition.ensures by.value by.within) (also (sent_number c.args.limit c.params-to_sql-in-Transition-2.ensures limit.value limit.within) no_more)) in
    let it = pass_asks c.args.by c.args.limit g.S.Store c.args.conn.now c.query.new.conn c.query.result c.args.pass _ c.marked_text-text.ensures _ (sent ∙ moments_given c.args.by c.args.limit c.args.pass c.in-Transition.is) q.asks q.opens q.shows q.fails q.told in
    reads_can (λ marked has few. tt) (reads_if (λ few. tt) it)

pub returns-in-Validate : goal.returns-in-Validate
returns-in-Validate g c =
    let q = c.query-in-Validate.ensures in
    let limit = c.in_ok-limit.ensures in
    let sent : _ ≡ number 1 ∷ number c.args.limit ∷ [] = also (ap bound_value c.params-to_sql-in-Validate.ensures ∙ bound_flag true) (also (sent_number c.args.limit c.params-to_sql-in-Validate-2.ensures limit.value limit.within) no_more) in
    let it = pass_asks c.args.by c.args.limit g.S.Store c.args.conn.now c.query-in-Validate.new.conn c.query-in-Validate.result c.args.pass _ c.marked_text-text.ensures _ (sent ∙ flags_given c.args.by c.args.limit c.args.pass c.in-Validate.is) q.asks q.opens q.shows q.fails q.told in
    reads_can (λ marked has few. tt) (reads_if (λ few. tt) it)
