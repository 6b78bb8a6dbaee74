use Rattle.wu_schema.proofs.CallLemmas.{does_then}
use Rattle.wu_store.proofs.CreditEffect.{adds_grants, grants_leave, grants_spare}
use Rattle.wu_store.proofs.changes.add_grants.Goals as goal

pub returns-clause-adds : goal.returns-clause-adds
returns-clause-adds g c =
    does_then g.S.Store c.args.tx.now c.insert_grants.new.tx c.add_sums.new.tx c.add_sums.result (λ old mid new. adds_grants old mid new c.args.place c.args.grants.now c.args.sums.now) c.in_ok-insert_grants.ensures.makes c.add_sums.ensures.works.part c.add_sums.ensures.makes

pub returns-clause-queue : goal.returns-clause-queue
returns-clause-queue g c =
    does_then g.S.Store c.args.tx.now c.insert_grants.new.tx c.add_sums.new.tx c.add_sums.result (λ old mid new. grants_leave old mid new c.args.place c.args.grants.now c.args.sums.now) c.in_ok-insert_grants.ensures.makes c.add_sums.ensures.works.part c.add_sums.ensures.makes

pub returns-clause-spares : goal.returns-clause-spares
returns-clause-spares g c =
    does_then g.S.Store c.args.tx.now c.insert_grants.new.tx c.add_sums.new.tx c.add_sums.result (λ old mid new. grants_spare old mid new c.args.place c.args.grants.now c.args.sums.now) c.in_ok-insert_grants.ensures.makes c.add_sums.ensures.works.part c.add_sums.ensures.makes
