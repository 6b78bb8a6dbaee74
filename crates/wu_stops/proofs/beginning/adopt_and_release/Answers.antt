use Rattle.std.proofs.Common.{sym, subst}
use Rattle.sqlite.specs.Held.{state}
use Rattle.wu_stops.specs.Beginning.{LeavesAdopted}
use Rattle.wu_stops.proofs.beginning.adopt_and_release.Goals as goal

pub returns-in-Ok : goal.returns-in-Ok
returns-in-Ok g c = subst (λ h. LeavesAdopted (state g.S.Store c.args.conn) (state g.S.Store h)) (sym c.release.ensures.same) (record {
  clean = c.in-Ok.ensures.session.adopts.clean;
  left = c.in-Ok.ensures.session.adopts.left;
  goes = λ clean world first goes. (c.in-Ok.ensures.session.adopts.goes clean world first goes).0;
})

pub returns-in-Err : goal.returns-in-Err
returns-in-Err g c = record {
  clean = c.in-Err.ensures.refused.clean;
  left = λ clean. (c.in-Err.ensures.refused.given clean).left;
  goes = λ clean world first goes. (c.in-Err.ensures.refused.given clean).goes world goes;
}
