use Rattle.std.proofs.Common.{inl, refl}
use Rattle.wu_process_laws.proofs.SessionLeaving.{begins_where_one_ended}
use Rattle.wu_process_laws.proofs.a_run_begins_where_one_ended.Goals as goal

pub returns : goal.returns
returns g c = begins_where_one_ended (λ file. inl refl) (g.O.Write.contents) (g.E.Write.contents) c.args.first.now c.args.second.now
