use Rattle.std.proofs.Common.{◌≡◌, IsTrue, Some, arith, rules, subst}
use Rattle.wu_schema.proofs.AskingLemmas.{asks_now, asks_then}
use Rattle.wu_machine.specs.Machine.{present_version}
use Rattle.wu_plans.proofs.ExitLemmas.{serves_handed}
use Rattle.wu_store.proofs.AskLemmas.{asks_handed, fault_handed}
use Rattle.wu_tables.specs.Others.{HasOnlyAProject}
use Rattle.wu_refill.proofs.FoundLemmas.{alone_found}
use Rattle.wu_refill.proofs.loading.load_alone.Goals as goal

pub returns-in_err-version-clause-asks : goal.returns-in_err-version-clause-asks
returns-in_err-version-clause-asks g c = asks_handed g.S.Store _ _ c.from_residual.result c.in_err-version.field-0.0 c.from_residual.ensures.1 c.in_err-version.ensures.asks

pub returns-in_err-version-clause-opens : goal.returns-in_err-version-clause-opens
returns-in_err-version-clause-opens g c clean = serves_handed c.from_residual.result c.in_err-version.field-0.0 c.from_residual.ensures.1 (c.in_err-version.ensures.opens clean)

pub returns-in_err-version-clause-fault : goal.returns-in_err-version-clause-fault
returns-in_err-version-clause-fault g c = fault_handed c.from_residual.result c.in_err-version.field-0.0 c.from_residual.ensures.1 c.in_err-version.ensures.told

pub returns-clause-asks : goal.returns-clause-asks
returns-clause-asks g c = asks_then g.S.Store _ _ _ c.in_ok-version.version c.in_ok-version.ensures.asks c.load_refillable.result c.load_refillable.ensures.asks

pub returns-clause-found : goal.returns-clause-found
returns-clause-found g c =
    let is : c.in_ok-version.version ≡ Some present_version = search rules in
    let has : IsTrue c.has_only_a_project.result = search rules in
    alone_found g.S.Store c.args.conn.now c.version_of.new.conn c.load_refillable.new.conn c.in_ok-version.version is (λ clean. omega (arith, clean, c.load_refillable.ensures.asks.crash.clean))
    (λ clean. asks_now g.S.Store _ _ c.in_ok-version.version c.in_ok-version.ensures.asks clean) c.in_ok-version.ensures.answers
    (subst HasOnlyAProject c.schema.ensures.value (c.has_only_a_project.ensures.0 has)) c.load_refillable.result c.load_refillable.ensures.theirs
