use Rattle.wu_stops.proofs.beginning.begin_session.Goals as goal

pub returns-in-Ok : goal.returns-in-Ok
returns-in-Ok g c = c.in-Ok.ensures.session
