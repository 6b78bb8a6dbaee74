use Rattle.wu_stops.proofs.closing.close_stop_and_open.Goals as goal

pub returns-in_ok-again-in-Ok-clause-reopened : goal.returns-in_ok-again-in-Ok-clause-reopened
returns-in_ok-again-in-Ok-clause-reopened g c = c.in_ok-again-in-Ok.ensures.reopened c.args.conn c.in-Ok.ensures.copied

pub returns-in_ok-again-in-Ok-clause-goes : goal.returns-in_ok-again-in-Ok-clause-goes
returns-in_ok-again-in-Ok-clause-goes g c = c.in_ok-again-in-Ok.ensures.goes c.args.conn c.in-Ok.ensures.copied

pub returns-in_ok-again-in-Err-clause-reopened : goal.returns-in_ok-again-in-Err-clause-reopened
returns-in_ok-again-in-Err-clause-reopened g c =
    let closed = c.in-Err.ensures.err.0 in
    (c.in-Err.left, closed, λ numbered. c.in_ok-again-in-Err.ensures.reopened c.args.conn (record { closed = closed; numbered = numbered }))

pub returns-in_ok-again-in-Err-clause-goes : goal.returns-in_ok-again-in-Err-clause-goes
returns-in_ok-again-in-Err-clause-goes g c =
    let closed = c.in-Err.ensures.err.0 in
    (c.in-Err.left, closed, λ numbered. c.in_ok-again-in-Err.ensures.goes c.args.conn (record { closed = closed; numbered = numbered }))
