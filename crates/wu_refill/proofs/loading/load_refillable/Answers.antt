use Rattle.wu_plans.proofs.ExitLemmas.{memory_told, memory_unbroken, serves_handed, serves_open}
use Rattle.wu_store.proofs.AskLemmas.{asks_handed, asks_made, fault_handed}
use Rattle.wu_refill.proofs.FoundLemmas.{finds_sound, finds_theirs}
use Rattle.wu_refill.proofs.loading.load_refillable.Goals as goal

pub returns-in_err-found-clause-asks : goal.returns-in_err-found-clause-asks
returns-in_err-found-clause-asks g c = asks_handed g.S.Store _ _ c.from_residual.result c.in_err-found.field-0.0 c.from_residual.ensures.1 c.in_err-found.ensures.looks.asks

pub returns-in_err-found-clause-opens : goal.returns-in_err-found-clause-opens
returns-in_err-found-clause-opens g c clean = serves_handed c.from_residual.result c.in_err-found.field-0.0 c.from_residual.ensures.1 (c.in_err-found.ensures.looks.opens clean)

pub returns-in_err-found-clause-fault : goal.returns-in_err-found-clause-fault
returns-in_err-found-clause-fault g c = fault_handed c.from_residual.result c.in_err-found.field-0.0 c.from_residual.ensures.1 c.in_err-found.ensures.looks.fault

pub returns-clause-asks : goal.returns-clause-asks
returns-clause-asks g c = asks_made g.S.Store _ _ c.in_ok-found.found c.keep_refillable.result (memory_unbroken c.keep_refillable.result c.keep_refillable.ensures.fault) c.in_ok-found.ensures.looks.asks

pub returns-clause-opens : goal.returns-clause-opens
returns-clause-opens g c clean = serves_open c.keep_refillable.result (c.in_ok-found.ensures.looks.opens clean)

pub returns-clause-fault : goal.returns-clause-fault
returns-clause-fault g c = memory_told c.keep_refillable.result c.keep_refillable.ensures.fault

pub returns-clause-found : goal.returns-clause-found
returns-clause-found g c =
    finds_sound c.sound_in_any_order.ensures g.S.Store c.args.conn.now c.load_world.new.conn c.in_ok-found.found c.in_ok-found.ensures
    c.keep_refillable.result c.keep_refillable.ensures.kept

pub returns-clause-theirs : goal.returns-clause-theirs
returns-clause-theirs g c = finds_theirs g.S.Store c.args.conn.now c.load_world.new.conn c.in_ok-found.found c.in_ok-found.ensures c.keep_refillable.result c.keep_refillable.ensures.same
