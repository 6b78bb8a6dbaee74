use Rattle.wu_loader.proofs.QuestionLemmas.{looks_at}
use Rattle.wu_loader.proofs.tables.rows_of.Goals as goal

pub returns : goal.returns
returns g c version there =
    let q = c.query.ensures in
    looks_at version g.S.Store c.args.conn.now c.query.new.conn c.query.result c.args.table there c.question.result.now c.question.ensures q.asks q.opens q.shows q.fails q.told
