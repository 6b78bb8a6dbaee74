use Rattle.std.proofs.Common.{IfErr, IfOk, subst}
use Rattle.sqlite.specs.Held.{state}
use Rattle.wu_passes.specs.Adopting.{RefusesAdoption}
use Rattle.wu_passes.specs.Projects.{BeginsSession, state_of}
use Rattle.wu_passes.proofs.AdoptingLemmas.{fails_again, goes_again}
use Rattle.wu_passes.proofs.project.Project.begin_again.Goals as goal

pub returns-clause-session : goal.returns-clause-session
returns-clause-session g c = subst (λ h. IfOk c.adopt.result (BeginsSession g.S.Store h)) c.release.ensures.same c.adopt.ensures.session

pub returns-clause-goes : goal.returns-clause-goes
returns-clause-goes g c = goes_again c.args.self c.adopt.result (returns-clause-session g c)

pub returns-clause-fails : goal.returns-clause-fails
returns-clause-fails g c =
    fails_again c.args.self c.adopt.result c.args.self.idle
    (subst (λ h. IfErr c.adopt.result (λ refusal. RefusesAdoption (state g.S.Store h) (state g.S.Store refusal.0) refusal.1)) c.release.ensures.same c.adopt.ensures.refused)
