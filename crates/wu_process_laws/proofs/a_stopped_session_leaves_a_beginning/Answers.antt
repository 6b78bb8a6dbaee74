use Rattle.std.proofs.Common.{inl, refl}
use Rattle.wu_process_laws.proofs.SessionLeaving.{leaves_its_lines_unclosed}
use Rattle.wu_process_laws.proofs.a_stopped_session_leaves_a_beginning.Goals as goal

pub returns : goal.returns
returns g c = leaves_its_lines_unclosed (λ file. inl refl) (g.O.Write.contents) (g.E.Write.contents) c.args.end.now
